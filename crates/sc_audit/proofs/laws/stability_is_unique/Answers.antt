use Rattle.sc_audit.proofs.Stabilities.{one-stability}
use Rattle.sc_audit.proofs.laws.stability_is_unique.Goals as goal

pub returns : goal.returns
returns c = one-stability
