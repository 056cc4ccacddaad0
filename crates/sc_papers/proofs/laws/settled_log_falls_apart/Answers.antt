use Rattle.sc_papers.proofs.Apart.{settled-apart}
use Rattle.sc_papers.proofs.laws.settled_log_falls_apart.Goals as goal

pub returns : goal.returns
returns c = settled-apart
