use Rattle.sc_papers.proofs.Subsets.{well-restricted, well-cut}
use Rattle.sc_papers.proofs.laws.part_of_papers_is_well_formed.Goals as goal

pub returns-clause-restricted : goal.returns-clause-restricted
returns-clause-restricted c = well-restricted

pub returns-clause-cut : goal.returns-clause-cut
returns-clause-cut c = well-cut
