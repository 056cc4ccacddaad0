use Rattle.std.proofs.Common.{◌≡◌, ◌==◌, filter}
use Rattle.std.specs.List.{range_with_len}
use Rattle.std.specs.Prelude.{slice_index}
use Rattle.sc_region.proofs.candidates.schools_of_group.Given as goal

abbrev pub invariant-loop-school : goal.invariant-loop-school
invariant-loop-school l = l.schools.items ≡ filter (λ at. slice_index l.groups at == l.group) (range_with_len 0 l.school)
