use Rattle.std.proofs.Common.{◌≤◌}
use Rattle.sc_repair.specs.Rewinding.{first_to_list}
use Rattle.sc_repair.proofs.rewind.first_to_list.Given as goal

abbrev pub invariant-loop-position : goal.invariant-loop-position
invariant-loop-position l = l.position ≤ first_to_list l.papers l.school
