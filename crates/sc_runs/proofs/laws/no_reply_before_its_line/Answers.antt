use Rattle.sc_runs.proofs.LineFirst.{lines-of-run}
use Rattle.sc_runs.proofs.laws.no_reply_before_its_line.Goals as goal

pub returns : goal.returns
returns c = lines-of-run
