use Rattle.sc_report.proofs.AdmissionLaws.{stable-iff}
use Rattle.sc_report.proofs.laws.cutoffs_certify_stability.Goals as goal

pub returns : goal.returns
returns c = stable-iff
