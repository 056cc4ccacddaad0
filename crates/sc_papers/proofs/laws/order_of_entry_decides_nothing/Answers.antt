use Rattle.sc_papers.proofs.Reordering.{optimal-reordered}
use Rattle.sc_papers.proofs.laws.order_of_entry_decides_nothing.Goals as goal

pub returns : goal.returns
returns c = optimal-reordered
