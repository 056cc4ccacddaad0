use Rattle.std.proofs.Common.{◌-◌, length}
use Rattle.sc_intake.proofs.Listing.{SoFar}
use Rattle.sc_intake.proofs.school_list.school_list.Given as goal

abbrev pub invariant-loop-start : goal.invariant-loop-start
invariant-loop-start l = SoFar l.text l.start l.schools.items l.in_range

abbrev pub decreases-loop-start : goal.decreases-loop-start
decreases-loop-start l = length l.text - l.start
