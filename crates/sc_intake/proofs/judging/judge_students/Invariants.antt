use Rattle.std.proofs.Common.{◌≡◌, drop}
use Rattle.sc_intake.specs.Checking.{students_judged}
use Rattle.sc_intake.proofs.judging.judge_students.Given as goal

abbrev pub invariant-loop-row : goal.invariant-loop-row
invariant-loop-row l =
    students_judged l.lists (record { good = l.initial.papers; faults = l.initial.faults.items }) l.roster
    ≡ students_judged l.lists (record { good = l.papers; faults = l.faults.items }) (drop l.row-index l.roster)
