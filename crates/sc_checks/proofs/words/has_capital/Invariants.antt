use Rattle.std.proofs.Common.{◌≡◌, false, take}
use Rattle.sc_checks.specs.Words.{has_capital}
use Rattle.sc_checks.proofs.words.has_capital.Given as goal

abbrev pub invariant-loop-byte : goal.invariant-loop-byte
invariant-loop-byte l = has_capital (take l.byte-index l.text) ≡ false
