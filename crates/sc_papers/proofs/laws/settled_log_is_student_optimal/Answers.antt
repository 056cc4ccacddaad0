use Rattle.sc_papers.proofs.Optimality.{settled-optimal}
use Rattle.sc_papers.proofs.laws.settled_log_is_student_optimal.Goals as goal

pub returns : goal.returns
returns c = λ m log well settled. settled-optimal m well log settled
