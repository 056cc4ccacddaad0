use Rattle.sc_papers.proofs.Uniqueness.{optimal-unique}
use Rattle.sc_papers.proofs.laws.student_optimal_matching_is_unique.Goals as goal

pub returns : goal.returns
returns c = optimal-unique
