use Rattle.sc_decimal.proofs.FirstDigits.{AreDigits}
use Rattle.sc_decimal.proofs.reading.read_digits.Given as goal

abbrev pub invariant-loop-index : goal.invariant-loop-index
invariant-loop-index l = AreDigits l.text l.index l.number
