-- What auditing a published report with its log does, where bytes are known.
use Rattle.std.specs.Prelude.{◌≡◌, ◌⊎◌, ℕ, ◌+◌, true, List, [], ◌∷◌, ◌++◌, codes, length, Option, None, Some, Result, Ok, Err}
use Rattle.std.specs.Fmt.{decimal}
use Rattle.std.specs.Io.KnownBytes.{Appends, Keeps}
use Rattle.sc_papers.specs.Log.{matching_of, IsSettled}
use Rattle.sc_papers.specs.Market.{Market}
use Rattle.sc_papers.specs.declared.rejection.Rejection.{Rejection}
use Rattle.sc_audit.specs.Verdict.{IsVerdict}
use Rattle.sc_audit.specs.declared.verdict.Verdict.TheVariants as verdict
use Rattle.sc_intake.specs.declared.fault.IntakeFault.{IntakeFault}
use Rattle.sc_intake.specs.declared.fault.Source.TheVariants as input
use Rattle.sc_report.specs.Comparing.{ComparesWith}
use Rattle.sc_report.specs.Text.{report_text}
use Rattle.sc_report.specs.Whole.{AppendsPrefix, GivesAtMost}
use Rattle.sc_steps.specs.Inputs.{in_order, Texts, Turn, AreRead, IsUntouched}
use Rattle.sc_steps.specs.Opening.{EndsUnread}
use Rattle.sc_steps.specs.declared.fault.RunFault.{RunFault}
use Rattle.sc_steps.specs.declared.fault.RunFault.TheVariants.{Read, Intake, Journal, WriteOut, WriteJournal, OutOfMemory}
use Rattle.sc_runs.specs.Auditing.{audit_in, Claimed}
use Rattle.sc_runs.specs.declared.publishing.Finding.{Finding}
use Rattle.sc_runs.specs.declared.publishing.Finding.TheVariants.{BadEntry, Over, ReportDiffers, Certified}

-- the line that tells a finding
abbrev pub finding_text : Finding → List ℕ
finding_text (BadEntry line) = codes "bad entry " ++ decimal line ++ codes "\n"
finding_text (Over s) = codes "over " ++ decimal s ++ codes "\n"
finding_text (ReportDiffers line) = codes "report differs " ++ decimal line ++ codes "\n"
finding_text Certified = codes "certified\n"

-- a report was read and compared with a text, and no call on its reader failed; no more was taken of it than 60 KiB past the
-- length of that text
pub record IsCompared (text : List ℕ) (report : Turn) (found : Option ℕ) : Type 0 where
  pub compared : ComparesWith text report.left_before report.left_after found
  pub within : GivesAtMost (length text + 61440) report.left_before report.left_after
  pub unfailed : report.failed_after ≡ report.failed_before

-- the report of papers under the matching of a log
abbrev pub report_by : Market → List Rejection → List ℕ
report_by m log = report_text m (matching_of m log)

-- what a finding says of a log and of a report: of a log that is not settled what is wrong with it, and the report is not
-- looked at; and else whether the report is that of the papers under the log's matching
abbrev pub IsFinding : Market → List Rejection → Turn → Finding → Type 0
IsFinding m log report (BadEntry line) = IsVerdict m log (verdict.BadEntry line) × IsUntouched report
IsFinding m log report (Over s) = IsVerdict m log (verdict.Over s) × IsUntouched report
IsFinding m log report (ReportDiffers line) = IsSettled m log × IsCompared (report_by m log) report (Some line)
IsFinding m log report Certified = IsSettled m log × IsCompared (report_by m log) report None

-- comparing a report ended early: its reader failed, or there was no memory
abbrev pub EndsComparing : Turn → RunFault → Type 0
EndsComparing report (Read source) = (source ≡ input.Report) × (report.failed_after ≡ true)
EndsComparing report OutOfMemory = report.failed_after ≡ report.failed_before
EndsComparing report _ = ⊥

-- an audit of a log and a report ended early; where the report could not be read, the log is settled
abbrev pub EndsFinding : Market → List Rejection → Turn → RunFault → Type 0
EndsFinding m log report (Read source) = IsSettled m log × EndsComparing report (Read source)
EndsFinding m log report OutOfMemory = EndsComparing report OutOfMemory
EndsFinding m log report _ = ⊥

-- a finding of the log that was read and of the report was made, and its line written; a prefix of it where the writer
-- failed, and nothing where the inputs have a fault, the report could not be read, or there was no memory
abbrev pub WritesFinding : Result Claimed IntakeFault → Turn → Option (List ℕ) → Option (List ℕ) → Result Finding RunFault → Type 0
WritesFinding reading report old new (Ok finding) =
    (claimed : Claimed) × (reading ≡ Ok claimed) × IsFinding claimed.papers claimed.log report finding × Appends old new (finding_text finding)
WritesFinding reading report old new (Err (Read source)) =
    (claimed : Claimed) × (reading ≡ Ok claimed) × EndsFinding claimed.papers claimed.log report (Read source) × Keeps old new
WritesFinding reading report old new (Err (Intake fault)) = (reading ≡ Err fault) × IsUntouched report × Keeps old new
WritesFinding reading report old new (Err WriteOut) =
    (claimed : Claimed) × (reading ≡ Ok claimed) × ((finding : Finding) × IsFinding claimed.papers claimed.log report finding × AppendsPrefix old new (finding_text finding))
WritesFinding reading report old new (Err OutOfMemory) = EndsComparing report OutOfMemory × Keeps old new
WritesFinding reading report old new (Err (Journal fault)) = ⊥
WritesFinding reading report old new (Err WriteJournal) = ⊥

-- what auditing files and a report did: reading the files ended early, and the report was not come to; or they were read,
-- each whole, and the log and the report were audited
abbrev pub AuditsReport : List ℕ → List Turn → Turn → Option (List ℕ) → Option (List ℕ) → Result Finding RunFault → Type 0
AuditsReport seed turns report old new result = (EndsUnread turns old new result × IsUntouched report)
    ⊎ ((texts : Texts) × (log : List ℕ) × AreRead turns (in_order texts ++ log ∷ []) × WritesFinding (audit_in seed texts log) report old new result)
