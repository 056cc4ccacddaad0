use Rattle.sc_papers.proofs.Standings.{next-moves}
use Rattle.sc_papers.proofs.Rejections.{next-same}
use Rattle.sc_papers.proofs.laws.rejection_moves_one_student_on.Goals as goal

pub returns-clause-own : goal.returns-clause-own
returns-clause-own c = λ m log entry k well. next-moves m well log entry k

pub returns-clause-others : goal.returns-clause-others
returns-clause-others c = next-same
