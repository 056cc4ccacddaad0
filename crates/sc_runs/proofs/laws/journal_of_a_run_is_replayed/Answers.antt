use Rattle.sc_runs.proofs.Journaling.{IsReplay-run}
use Rattle.sc_runs.proofs.laws.journal_of_a_run_is_replayed.Goals as goal

pub returns : goal.returns
returns c = IsReplay-run
