use Rattle.std.proofs.Common.{◌≡◌, ◌<◌, ◌+◌, take}
use Rattle.sc_ledgers.specs.Known.{up_to}
use Rattle.sc_ledgers.proofs.ledger.last_held.Given as goal

abbrev pub invariant-loop-at : goal.invariant-loop-at
invariant-loop-at l = (l.count ≡ up_to l.turn (take (l.from + l.at) l.turns)) × (l.count < l.seats)
