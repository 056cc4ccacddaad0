use Rattle.sc_runs.proofs.Journaling.{length-accepted}
use Rattle.sc_runs.proofs.laws.journal_of_a_run_is_never_full.Goals as goal

pub returns : goal.returns
returns c = length-accepted
