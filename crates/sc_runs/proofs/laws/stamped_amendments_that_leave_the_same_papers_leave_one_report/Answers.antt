use Rattle.sc_runs.proofs.DeskOrder.{desks-matching, desks-report}
use Rattle.sc_runs.proofs.laws.stamped_amendments_that_leave_the_same_papers_leave_one_report.Goals as goal

pub returns-clause-matching : goal.returns-clause-matching
returns-clause-matching c = desks-matching

pub returns-clause-report : goal.returns-clause-report
returns-clause-report c = desks-report

pub returns-clause-desks : goal.returns-clause-desks
returns-clause-desks c = λ m desks first second a b well woven also same optimal other. (desks-matching m first second a b well same optimal other, desks-report m first second a b well same optimal other)
