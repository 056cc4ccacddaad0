use Rattle.sc_papers.proofs.Priority.{ahead-strict}
use Rattle.sc_papers.proofs.laws.being_ahead_is_a_strict_order.Goals as goal

pub returns : goal.returns
returns c = ahead-strict
