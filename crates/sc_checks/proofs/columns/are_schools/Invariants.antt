use Rattle.std.proofs.Common.{ℕ, ◌-◌, List, length}
use Rattle.sc_intake.proofs.Listing.{SoFar}
use Rattle.sc_checks.proofs.columns.are_schools.Given as goal

abbrev pub invariant-loop-start : goal.invariant-loop-start
invariant-loop-start l = (schools : List ℕ) × SoFar l.text l.start schools l.in_range

abbrev pub decreases-loop-start : goal.decreases-loop-start
decreases-loop-start l = length l.text - l.start
