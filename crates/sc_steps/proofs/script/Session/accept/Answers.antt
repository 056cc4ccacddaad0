use Rattle.std.proofs.Common.{rules}
use Rattle.sc_steps.proofs.Openings.{Keeps-refl}
use Rattle.sc_steps.proofs.TwoWriters.{GrowsByPrefix-kept}
use Rattle.sc_steps.proofs.script.Session.accept.Goals as goal

pub returns-in-Err-clause-writes : goal.returns-in-Err-clause-writes
returns-in-Err-clause-writes g c = record { bytes = GrowsByPrefix-kept _ _ _ _ _ (Keeps-refl _) (Keeps-refl _); failed = search rules; journal_failed = search rules }

pub returns-clause-writes : goal.returns-clause-writes
returns-clause-writes g c = record { bytes = GrowsByPrefix-kept _ _ _ _ _ (Keeps-refl _) (Keeps-refl _); failed = search rules; journal_failed = search rules }
