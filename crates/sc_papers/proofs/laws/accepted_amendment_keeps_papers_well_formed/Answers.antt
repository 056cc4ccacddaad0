use Rattle.sc_papers.proofs.Amending.{WellFormed-after}
use Rattle.sc_papers.proofs.laws.accepted_amendment_keeps_papers_well_formed.Goals as goal

pub returns : goal.returns
returns c = WellFormed-after
