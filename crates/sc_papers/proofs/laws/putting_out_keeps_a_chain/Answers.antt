use Rattle.sc_papers.proofs.Chain.{chain-puts-out}
use Rattle.sc_papers.proofs.laws.putting_out_keeps_a_chain.Goals as goal

pub returns : goal.returns
returns c = λ m log hand entry well. chain-puts-out m well log hand entry
