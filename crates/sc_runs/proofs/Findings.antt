-- What is found of a log and a report, told or not.
use Rattle.std.proofs.Common.{◌≡◌, ℕ, ◌++◌, ◌∷◌, [], inr, ap, subst, List, Option, Result, Ok, Err}
use Rattle.std.specs.Io.KnownBytes.{Appends, Keeps}
use Rattle.sc_papers.specs.Market.{Market}
use Rattle.sc_papers.specs.declared.rejection.Rejection.{Rejection}
use Rattle.sc_intake.specs.Log.{log_in}
use Rattle.sc_intake.specs.declared.fault.IntakeFault.{IntakeFault}
use Rattle.sc_report.specs.Whole.{AppendsPrefix}
use Rattle.sc_steps.specs.Inputs.{in_order, Texts, Turn, AreRead}
use Rattle.sc_steps.specs.Opening.{opening_in, WritesText}
use Rattle.sc_steps.specs.declared.fault.RunFault.{RunFault}
use Rattle.sc_steps.specs.declared.fault.RunFault.TheVariants.{Read, WriteOut, OutOfMemory}
use Rattle.sc_runs.specs.Auditing.{claimed_in}
use Rattle.sc_runs.specs.Publishing.{finding_text, AuditsReport, EndsFinding, IsFinding, WritesFinding}
use Rattle.sc_runs.specs.declared.publishing.Finding.{Finding}
use Rattle.sc_runs.specs.declared.publishing.Finding.TheVariants.{BadEntry, Over, ReportDiffers, Certified}

-- where something was found, no call on the report's reader failed
finding-unfailed : (m : Market) (log : List Rejection) (report : Turn) (finding : Finding) → IsFinding m log report finding → report.failed_after ≡ report.failed_before
finding-unfailed m log report (BadEntry line) (is, untouched) = untouched.1
finding-unfailed m log report (Over s) (is, untouched) = untouched.1
finding-unfailed m log report (ReportDiffers line) (is, compared) = compared.unfailed
finding-unfailed m log report Certified (is, compared) = compared.unfailed

-- a finding on papers and the log that was read was told
pub WritesFinding-written : (m : Market) (logged : Result (List Rejection) IntakeFault) (seen log : List Rejection) (report : Turn) (finding : Finding) (old new : Option (List ℕ))
    → logged ≡ Ok log → seen ≡ log → IsFinding m seen report finding → WritesText (λ text. text ≡ finding_text finding) old new (Ok tt) → WritesFinding (claimed_in (Ok m) logged) report old new (Ok finding)
WritesFinding-written m logged seen log report finding old new read same is (text, told, wrote) =
    (record { papers = m; log = log }, ap (claimed_in (Ok m)) read, subst (λ l. IsFinding m l report finding) same is, subst (Appends old new) told wrote)

-- something was found, but not told whole
pub WritesFinding-failed : (m : Market) (logged : Result (List Rejection) IntakeFault) (seen log : List Rejection) (report : Turn) (finding : Finding) (old new : Option (List ℕ)) (fault : RunFault)
    → logged ≡ Ok log → seen ≡ log → IsFinding m seen report finding → WritesText (λ text. text ≡ finding_text finding) old new (Err fault) → WritesFinding (claimed_in (Ok m) logged) report old new (Err fault)
WritesFinding-failed m logged seen log report finding old new WriteOut read same is (text, told, wrote) =
    (record { papers = m; log = log }, ap (claimed_in (Ok m)) read, (finding, subst (λ l. IsFinding m l report finding) same is, subst (AppendsPrefix old new) told wrote))
WritesFinding-failed m logged seen log report finding old new OutOfMemory read same is wrote = (finding-unfailed m seen report finding is, wrote)
WritesFinding-failed m logged seen log report finding old new _ read same is wrote = absurd wrote

-- nothing was found, since comparing the report ended early, and nothing was written
pub WritesFinding-ended : (m : Market) (logged : Result (List Rejection) IntakeFault) (seen log : List Rejection) (report : Turn) (old new : Option (List ℕ)) (fault : RunFault)
    → logged ≡ Ok log → seen ≡ log → EndsFinding m seen report fault → Keeps old new → WritesFinding (claimed_in (Ok m) logged) report old new (Err fault)
WritesFinding-ended m logged seen log report old new (Read source) read same ended kept =
    (record { papers = m; log = log }, ap (claimed_in (Ok m)) read, subst (λ l. EndsFinding m l report (Read source)) same ended, kept)
WritesFinding-ended m logged seen log report old new OutOfMemory read same ended kept = (ended, kept)
WritesFinding-ended m logged seen log report old new _ read same ended kept = absurd ended

-- the files and the log were read, and the log and the report were audited
pub AuditsReport-read : (seed : List ℕ) (turns : List Turn) (report : Turn) (texts : Texts) (log given : List ℕ) (old new : Option (List ℕ)) (result : Result Finding RunFault)
    → AreRead turns (in_order texts ++ log ∷ []) → given ≡ log
    → WritesFinding (claimed_in (opening_in seed texts) (log_in given)) report old new result → AuditsReport seed turns report old new result
AuditsReport-read seed turns report texts log given old new result read is wrote = inr (
  texts,
  log,
  read,
  subst (λ text. WritesFinding (claimed_in (opening_in seed texts) (log_in text)) report old new result) is wrote,
)
