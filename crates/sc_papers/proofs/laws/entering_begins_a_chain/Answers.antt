use Rattle.sc_papers.proofs.Chain.{chain-begins}
use Rattle.sc_papers.proofs.laws.entering_begins_a_chain.Goals as goal

pub returns : goal.returns
returns c = chain-begins
