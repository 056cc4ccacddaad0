use Rattle.std.proofs.Common.{arith}
use Rattle.sc_intake.proofs.JudgingSteps.{student-end, student-step}
use Rattle.sc_intake.proofs.judging.judge_students.Goals as goal

pub loop-row-preserved : goal.loop-row-preserved
loop-row-preserved c =
    student-step c.args.lists.now _ (record { good = c.loop-row.papers; faults = c.loop-row.faults.items })
    (record { good = c.judge_student.new.papers; faults = c.judge_student.new.faults.items }) c.args.roster.now c.loop-row.row-index c.row-item.result
    c.loop-row.invariant (omega arith) c.row-item.is (rw c.find_list-list.ensures at c.in_ok-judge_student.ensures)

pub returns : goal.returns
returns c = student-end c.args.lists.now _ _ c.args.roster.now c.loop-row.row-index c.loop-row.invariant (omega arith)
