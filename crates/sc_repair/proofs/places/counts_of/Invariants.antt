use Rattle.std.proofs.Common.{take}
use Rattle.sc_repair.specs.Places.{AreCounts}
use Rattle.sc_repair.proofs.places.counts_of.Given as goal

abbrev pub invariant-loop-position : goal.invariant-loop-position
invariant-loop-position l = AreCounts (take l.position l.assignment) l.counts.items
