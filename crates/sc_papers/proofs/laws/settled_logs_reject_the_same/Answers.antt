use Rattle.sc_papers.proofs.Progress.{same-rejected, same-length}
use Rattle.sc_papers.proofs.laws.settled_logs_reject_the_same.Goals as goal

pub returns-clause-rejected : goal.returns-clause-rejected
returns-clause-rejected c = λ m log other well. same-rejected m well log other

pub returns-clause-length : goal.returns-clause-length
returns-clause-length c = λ m log other well. same-length m well log other
