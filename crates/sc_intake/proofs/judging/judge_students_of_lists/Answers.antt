use Rattle.std.proofs.Common.{◌≡◌, sym, ◌∙◌, arith}
use Rattle.sc_intake.specs.Checking.{faults_of_list}
use Rattle.sc_intake.specs.Papers.{is_in_roster}
use Rattle.sc_intake.proofs.InStep.{in-numbers}
use Rattle.sc_intake.proofs.JudgingSteps.{lists-more}
use Rattle.sc_intake.proofs.judging.judge_students_of_lists.Goals as goal

pub loop-list-preserved : goal.loop-list-preserved
loop-list-preserved c =
    let list = c.list-item.result in
    let seen : c.contains.result ≡ is_in_roster c.args.roster.now list.student =
    c.contains.ensures ∙ (rw c.get.ensures.value (c.requires list.student)) ∙ sym (in-numbers c.args.roster.now list.student) in
    lists-more (faults_of_list c.args.roster.now) c.args.faults.now.items c.loop-list.faults.items c.judge_list.new.faults.items c.args.lists.now c.loop-list.list-index list
    c.loop-list.invariant (omega arith) c.list-item.is (rw seen at c.in_ok-judge_list.ensures)
