use Rattle.std.proofs.Common.{◌≡◌, ◌++◌, drop, map, take}
use Rattle.sc_ledgers.specs.Left.{kept_without}
use Rattle.sc_ledgers.proofs.ledger.Ledger.leave.Given as goal

abbrev pub invariant-loop-turn : goal.invariant-loop-turn
invariant-loop-turn l =
    l.turn-items ≡ map (kept_without l.position) (take l.turn-index l.initial.turn-items) ++ drop l.turn-index l.initial.turn-items
