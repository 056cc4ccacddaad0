use Rattle.sc_papers.proofs.Chain.{chain-ends}
use Rattle.sc_papers.proofs.laws.end_of_a_chain_settles.Goals as goal

pub returns : goal.returns
returns c = λ m log hand well. chain-ends m well log hand
