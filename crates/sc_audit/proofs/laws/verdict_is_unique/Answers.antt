use Rattle.sc_audit.proofs.Verdicts.{one-verdict}
use Rattle.sc_audit.proofs.laws.verdict_is_unique.Goals as goal

pub returns : goal.returns
returns c = one-verdict
