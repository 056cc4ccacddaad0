use Rattle.sc_region.proofs.Roots.{AreFlatBelow}
use Rattle.sc_region.proofs.school_groups.flatten.Given as goal

abbrev pub invariant-loop-position : goal.invariant-loop-position
invariant-loop-position l = AreFlatBelow l.initial.parents.items l.parents.items l.position
