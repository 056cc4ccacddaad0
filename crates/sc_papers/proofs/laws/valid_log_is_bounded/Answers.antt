use Rattle.sc_papers.proofs.Progress.{log-bounded}
use Rattle.sc_papers.proofs.laws.valid_log_is_bounded.Goals as goal

pub returns : goal.returns
returns c = λ m log well. log-bounded m well log
