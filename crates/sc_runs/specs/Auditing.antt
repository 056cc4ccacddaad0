-- What auditing a log does, where bytes are known.
use Rattle.std.specs.Prelude.{◌≡◌, ◌⊎◌, ℕ, List, [], ◌∷◌, ◌++◌, codes, Option, Result, Ok, Err}
use Rattle.std.specs.Fmt.{decimal}
use Rattle.std.specs.Io.KnownBytes.{Appends, Keeps}
use Rattle.sc_papers.specs.Market.{Market}
use Rattle.sc_papers.specs.declared.rejection.Rejection.{Rejection}
use Rattle.sc_audit.specs.Verdict.{IsVerdict}
use Rattle.sc_audit.specs.declared.verdict.Verdict.{Verdict}
use Rattle.sc_audit.specs.declared.verdict.Verdict.TheVariants.{BadEntry, Over, Certified}
use Rattle.sc_intake.specs.Fault.{◌>>=◌}
use Rattle.sc_intake.specs.Log.{log_in}
use Rattle.sc_intake.specs.declared.fault.IntakeFault.{IntakeFault}
use Rattle.sc_report.specs.Whole.{AppendsPrefix}
use Rattle.sc_steps.specs.Inputs.{in_order, Texts, Turn, AreRead}
use Rattle.sc_steps.specs.Opening.{opening_in, EndsUnread}
use Rattle.sc_steps.specs.declared.fault.RunFault.{RunFault}
use Rattle.sc_steps.specs.declared.fault.RunFault.TheVariants.{Intake, WriteOut, OutOfMemory}
use Rattle.sc_runs.specs.declared.auditing.Audited.{Audited}

-- the line that tells a verdict
abbrev pub verdict_text : Verdict → List ℕ
verdict_text Certified = codes "certified\n"
verdict_text (BadEntry line) = codes "bad entry " ++ decimal line ++ codes "\n"
verdict_text (Over s) = codes "over " ++ decimal s ++ codes "\n"

-- what an audit has read: the papers of the opening, and the entries of the log
pub record Claimed : Type 0 where
  pub papers : Market
  pub log : List Rejection

-- papers and a log, or the first fault: of the papers, and then of the log
abbrev pub claimed_in : Result Market IntakeFault → Result (List Rejection) IntakeFault → Result Claimed IntakeFault
claimed_in reading logged = do
  papers ← reading
  log ← logged
  Ok (record { papers = papers; log = log })

-- what the texts of an audit's inputs read as, or their first fault
abbrev pub audit_in : List ℕ → Texts → List ℕ → Result Claimed IntakeFault
audit_in seed texts log = claimed_in (opening_in seed texts) (log_in log)

-- a verdict of the log that was read was found, and its line written; a prefix of it where the writer failed, and nothing
-- where the inputs have a fault
abbrev pub WritesVerdict : Result Claimed IntakeFault → Option (List ℕ) → Option (List ℕ) → Result Verdict RunFault → Type 0
WritesVerdict reading old new (Ok verdict) = (claimed : Claimed) × (reading ≡ Ok claimed) × IsVerdict claimed.papers claimed.log verdict × Appends old new (verdict_text verdict)
WritesVerdict reading old new (Err (Intake fault)) = (reading ≡ Err fault) × Keeps old new
WritesVerdict reading old new (Err WriteOut) =
    (claimed : Claimed) × (reading ≡ Ok claimed) × ((verdict : Verdict) × IsVerdict claimed.papers claimed.log verdict × AppendsPrefix old new (verdict_text verdict))
WritesVerdict reading old new (Err OutOfMemory) = Keeps old new
WritesVerdict reading old new (Err _) = ⊥

-- an audit answers the papers and the verdict of the log that were read, whose line was written
abbrev pub WritesAudit : Result Claimed IntakeFault → Option (List ℕ) → Option (List ℕ) → Result Audited RunFault → Type 0
WritesAudit reading old new (Ok audited) =
    (claimed : Claimed) × (reading ≡ Ok claimed) × (audited.papers ≡ claimed.papers) × IsVerdict claimed.papers claimed.log audited.verdict × Appends old new (verdict_text audited.verdict)
WritesAudit reading old new (Err fault) = WritesVerdict reading old new (Err fault)

-- what auditing files did: reading them ended early, and nothing was written; or they were read, each whole,
-- and the log was audited
abbrev pub AuditsFiles : List ℕ → List Turn → Option (List ℕ) → Option (List ℕ) → Result Audited RunFault → Type 0
AuditsFiles seed turns old new result = EndsUnread turns old new result
    ⊎ ((texts : Texts) × (log : List ℕ) × AreRead turns (in_order texts ++ log ∷ []) × WritesAudit (audit_in seed texts log) old new result)
