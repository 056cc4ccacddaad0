use Rattle.sc_journal.proofs.Answering.{no-fault, one-fault, one-papers, one-tail}
use Rattle.sc_journal.proofs.laws.replay_has_one_answer.Goals as goal

pub returns-clause-papers : goal.returns-clause-papers
returns-clause-papers c = one-papers

pub returns-clause-tail : goal.returns-clause-tail
returns-clause-tail c = one-tail

pub returns-clause-fault : goal.returns-clause-fault
returns-clause-fault c = one-fault

pub returns-clause-either : goal.returns-clause-either
returns-clause-either c = no-fault
