use Rattle.sc_papers.proofs.Cutting.{cut-restricted}
use Rattle.sc_papers.proofs.laws.cut_is_a_restriction.Goals as goal

pub returns : goal.returns
returns c = cut-restricted
