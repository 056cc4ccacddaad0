use Rattle.sc_runs.proofs.LastLines.{unchanged-at_end}
use Rattle.sc_runs.proofs.laws.nothing_changes_after_the_last_line.Goals as goal

pub returns : goal.returns
returns c = unchanged-at_end
