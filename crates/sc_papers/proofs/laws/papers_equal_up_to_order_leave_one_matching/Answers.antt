use Rattle.sc_papers.proofs.Weaving.{reordered-matching}
use Rattle.sc_papers.proofs.laws.papers_equal_up_to_order_leave_one_matching.Goals as goal

pub returns : goal.returns
returns c = reordered-matching
