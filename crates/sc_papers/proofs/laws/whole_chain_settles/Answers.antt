use Rattle.sc_papers.proofs.Chain.{chain-settles}
use Rattle.sc_papers.proofs.laws.whole_chain_settles.Goals as goal

pub returns : goal.returns
returns c = λ m entered i log chain well. chain-settles m well entered i log chain
