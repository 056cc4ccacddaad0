use Rattle.sc_checks.proofs.Seeds.{same-faults}
use Rattle.sc_checks.proofs.laws.no_seed_changes_the_faults.Goals as goal

pub returns : goal.returns
returns c = same-faults
