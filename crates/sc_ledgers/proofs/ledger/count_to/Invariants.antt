use Rattle.std.proofs.Common.{◌≡◌, take}
use Rattle.sc_ledgers.specs.Known.{up_to}
use Rattle.sc_ledgers.proofs.ledger.count_to.Given as goal

abbrev pub invariant-loop-other : goal.invariant-loop-other
invariant-loop-other l = l.count ≡ up_to l.turn (take l.other-index l.turns)
