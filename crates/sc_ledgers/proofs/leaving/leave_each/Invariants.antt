use Rattle.std.proofs.Common.{◌≡◌, ◌++◌, drop, map, take}
use Rattle.sc_ledgers.specs.Left.{label_without}
use Rattle.sc_ledgers.proofs.leaving.leave_each.Given as goal

abbrev pub invariant-loop-ledger : goal.invariant-loop-ledger
invariant-loop-ledger l =
    l.ledger-items ≡ map (map (label_without l.position)) (take l.ledger-index l.initial.ledger-items) ++ drop l.ledger-index l.initial.ledger-items
