use Rattle.std.proofs.Common.{◌≡◌, ◌++◌, take}
use Rattle.std.specs.Prelude.{flat_map}
use Rattle.sc_intake.specs.Checking.{faults_of_list}
use Rattle.sc_intake.proofs.judging.judge_students_of_lists.Given as goal

abbrev pub invariant-loop-list : goal.invariant-loop-list
invariant-loop-list l = l.faults.items ≡ l.initial.faults.items ++ flat_map (faults_of_list l.roster) (take l.list-index l.lists)
