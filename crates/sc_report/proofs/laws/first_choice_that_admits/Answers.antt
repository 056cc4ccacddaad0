use Rattle.sc_report.proofs.AdmissionLaws.{first-admits, held-admits, preferred-refuses, preferred-reason}
use Rattle.sc_report.proofs.laws.first_choice_that_admits.Goals as goal

pub returns-clause-first : goal.returns-clause-first
returns-clause-first c = first-admits

pub returns-clause-has : goal.returns-clause-has
returns-clause-has c = held-admits

pub returns-clause-preferred : goal.returns-clause-preferred
returns-clause-preferred c = preferred-refuses

pub returns-clause-one_reason : goal.returns-clause-one_reason
returns-clause-one_reason c = preferred-reason
