use Rattle.sc_report.proofs.ReasonLaws.{reason-applies}
use Rattle.sc_report.proofs.laws.reason_applies.Goals as goal

pub returns : goal.returns
returns c = reason-applies
