use Rattle.sc_checks.proofs.Noting.{all-left}
use Rattle.sc_checks.proofs.checking.every_fault.Goals as goal

pub returns : goal.returns
returns c any =
    all-left c.args.seed any c.args.schools.now c.args.roster.now c.args.lists.now c.args.script.now
    c.in_ok-judge_schools.field-0.faults c.in_ok-judge_roster.field-0.faults c.in_ok-judge_lists.field-0.faults c.judge_script.result
    c.in_ok-judge_schools.field-0.good c.in_ok-judge_roster.field-0.good c.in_ok-judge_lists.field-0.good
    c.in_ok-judge_schools.ensures.faults c.in_ok-judge_roster.ensures.faults c.in_ok-judge_lists.ensures.faults c.judge_script.ensures
    c.in_ok-judge_schools.ensures.good c.in_ok-judge_roster.ensures.good c.in_ok-judge_lists.ensures.good
