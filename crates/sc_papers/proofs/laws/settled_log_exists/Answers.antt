use Rattle.sc_papers.proofs.Existence.{settled-exists, optimal-exists}
use Rattle.sc_papers.proofs.laws.settled_log_exists.Goals as goal

pub returns-clause-log : goal.returns-clause-log
returns-clause-log c = settled-exists

pub returns-clause-matching : goal.returns-clause-matching
returns-clause-matching c = optimal-exists
