use Rattle.sc_report.proofs.Orders.{assignment-moved, cutoffs-moved, reason-text-moved, report-moved, optimal-moved}
use Rattle.sc_report.proofs.laws.order_of_entry_decides_no_text.Goals as goal

pub returns-clause-assignment : goal.returns-clause-assignment
returns-clause-assignment c = λ m n a b well moved same. assignment-moved m n well moved a b same

pub returns-clause-cutoffs : goal.returns-clause-cutoffs
returns-clause-cutoffs c = λ m n a b well moved same. cutoffs-moved m n well moved a b same

pub returns-clause-reasons : goal.returns-clause-reasons
returns-clause-reasons c = λ m n a b well moved same. reason-text-moved m n well moved a b same

pub returns-clause-report : goal.returns-clause-report
returns-clause-report c = λ m n a b well moved same. report-moved m n well moved a b same

pub returns-clause-optimal : goal.returns-clause-optimal
returns-clause-optimal c = optimal-moved
