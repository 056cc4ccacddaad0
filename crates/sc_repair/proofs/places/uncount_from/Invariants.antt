use Rattle.std.proofs.Common.{◌-◌, ◌≤◌, length, take}
use Rattle.sc_repair.specs.Places.{AreCounts}
use Rattle.sc_repair.proofs.places.uncount_from.Given as goal

abbrev pub invariant-loop-left : goal.invariant-loop-left
invariant-loop-left l = (l.from ≤ l.left) × (l.left ≤ length l.assignment) × AreCounts (take l.left l.assignment) l.counts.items

abbrev pub decreases-loop-left : goal.decreases-loop-left
decreases-loop-left l = l.left - l.from
