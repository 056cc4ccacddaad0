use Rattle.std.proofs.Common.{◌≡◌, ◌≤◌, ◌<◌, ◌-◌, length, take}
use Rattle.sc_ledgers.specs.Known.{up_to}
use Rattle.sc_ledgers.proofs.ledger.block_of.Given as goal

abbrev pub invariant-loop-at : goal.invariant-loop-at
invariant-loop-at l = record { within : l.at ≤ length l.turns; before : l.count ≡ up_to l.turn (take l.at l.turns); fewer : l.count < l.seats }

abbrev pub decreases-loop-at : goal.decreases-loop-at
decreases-loop-at l = length l.turns - l.at
