-- What a run comes to: its replies, the amendments that it accepts, and its texts.
use Rattle.std.specs.Prelude.{◌≡◌, ◌⊎◌, ℕ, ◌+◌, List, [], ◌∷◌, ◌++◌, Option, None, Some, Result, Ok, Err, IsErrAnd}
use Rattle.std.specs.Io.KnownBytes.{Keeps}
use Rattle.sc_papers.specs.Market.{Market}
use Rattle.sc_papers.specs.Verdict.{unless_refused}
use Rattle.sc_papers.specs.declared.amendment.Amendment.{Amendment}
use Rattle.sc_papers.specs.declared.amendment.Refusal.{Refusal}
use Rattle.sc_papers.specs.declared.amendment.Stamped.{Stamped}
use Rattle.sc_stamps.specs.Verdict.{StampedPapers, stamped_verdict, unamended}
use Rattle.sc_intake.specs.Fault.{◌>>=◌}
use Rattle.sc_intake.specs.Script.{script_in}
use Rattle.sc_intake.specs.declared.fault.IntakeFault.{IntakeFault}
use Rattle.sc_journal.specs.Journal.{journal_text}
use Rattle.sc_report.specs.Reply.{reply_text}
use Rattle.sc_steps.specs.Inputs.{in_order, Texts, Turn, AreRead, EndsAmong}
use Rattle.sc_steps.specs.Opening.{opening_in, IsReport}
use Rattle.sc_steps.specs.Script.{after_record, after_script, answers}
use Rattle.sc_steps.specs.TwoWriters.{Contents, to_output, Grows, GrowsByPrefix}
use Rattle.sc_steps.specs.declared.fault.RunFault.{RunFault}
use Rattle.sc_steps.specs.declared.fault.RunFault.TheVariants.{Read, Intake, Journal, WriteOut, WriteJournal, OutOfMemory}

-- the reply to a record of a script: a stamped amendment's verdict in the papers as they stand, and a record
-- that is no amendment is refused as such
abbrev pub reply_to : StampedPapers → Result Stamped Refusal → Result (Unit {0}) Refusal
reply_to p (Ok stamped) = unless_refused (stamped_verdict p stamped)
reply_to p (Err refusal) = Err refusal

-- the reply lines of a script's records in turn, the first of which has this number
abbrev pub replies : ℕ → StampedPapers → List (Result Stamped Refusal) → List ℕ
replies number p [] = []
replies number p (entry ∷ rest) = reply_text number (reply_to p entry) ++ replies (number + 1) (after_record p entry) rest

-- the amendment of this verdict, where it is accepted
abbrev pub unless_verdict : Amendment → Option Refusal → List Amendment
unless_verdict amendment None = amendment ∷ []
unless_verdict amendment (Some refusal) = []

-- the amendment of a record, where it is one and is accepted
abbrev pub accepted_in : StampedPapers → Result Stamped Refusal → List Amendment
accepted_in p (Ok stamped) = unless_verdict stamped.amendment (stamped_verdict p stamped)
accepted_in p (Err refusal) = []

-- the amendments that are accepted, of a script's records in turn
abbrev pub accepted : StampedPapers → List (Result Stamped Refusal) → List Amendment
accepted p [] = []
accepted p (entry ∷ rest) = accepted_in p entry ++ accepted (after_record p entry) rest

-- what a run has read: the papers of the opening, and the records of the script
pub record Opened : Type 0 where
  pub papers : Market
  pub script : List (Result Stamped Refusal)

-- papers and a script, or the first fault: of the papers, and then of the script
abbrev pub opened_in : Result Market IntakeFault → Result (List (Result Stamped Refusal)) IntakeFault → Result Opened IntakeFault
opened_in reading scripted = do
  papers ← reading
  script ← scripted
  Ok (record { papers = papers; script = script })

-- what the texts of a run's inputs read as, or their first fault
abbrev pub run_in : List ℕ → Texts → List ℕ → Result Opened IntakeFault
run_in seed texts script = opened_in (opening_in seed texts) (script_in script)

-- a text is the report after a run: that of the papers as they then stand, under their student-optimal
-- stable matching
abbrev pub IsLastReport : Opened → List ℕ → Type 0
IsLastReport opened report = IsReport (after_script (unamended opened.papers) opened.script).papers report

-- a run wrote its texts: to the output a reply line for each record, and then the report; to the journal
-- the lines of the accepted amendments
abbrev pub WritesAll : Opened → Contents → Contents → Type 0
WritesAll opened old new = (report : List ℕ) × IsLastReport opened report
    × Grows old new (journal_text 1 (accepted (unamended opened.papers) opened.script)) (replies 1 (unamended opened.papers) opened.script ++ report)

-- a run ended amid its writes: the answers to the records, and then the report
abbrev pub WritesPrefix : Opened → Contents → Contents → Type 0
WritesPrefix opened old new =
    (report : List ℕ) × IsLastReport opened report × GrowsByPrefix (answers 1 (unamended opened.papers) opened.script ++ to_output report ∷ []) old new

-- nothing was written
abbrev pub KeepsBoth : Contents → Contents → Type 0
KeepsBoth old new = Keeps old.journal new.journal × Keeps old.output new.output

-- a run wrote its texts whole at `Ok`, a prefix of its writes where a writer failed or memory was refused, and
-- nothing where the papers or the script have a fault
abbrev pub WritesRun : Result Opened IntakeFault → Contents → Contents → Result (Unit {0}) RunFault → Type 0
WritesRun reading old new (Ok done) = (opened : Opened) × (reading ≡ Ok opened) × WritesAll opened old new
WritesRun reading old new (Err (Intake fault)) = (reading ≡ Err fault) × KeepsBoth old new
WritesRun reading old new (Err WriteOut) = (opened : Opened) × (reading ≡ Ok opened) × WritesPrefix opened old new
WritesRun reading old new (Err WriteJournal) = (opened : Opened) × (reading ≡ Ok opened) × WritesPrefix opened old new
WritesRun reading old new (Err OutOfMemory) = KeepsBoth old new ⊎ ((opened : Opened) × (reading ≡ Ok opened) × WritesPrefix opened old new)
WritesRun reading old new (Err (Journal fault)) = ⊥
WritesRun reading old new (Err (Read source)) = ⊥

-- what running files did: reading them ended early, and nothing was written; or they were read, each whole,
-- and run
abbrev pub RunsFiles : List ℕ → List Turn → Contents → Contents → Result (Unit {0}) RunFault → Type 0
RunsFiles seed turns old new result = (IsErrAnd result (EndsAmong turns) × KeepsBoth old new)
    ⊎ ((texts : Texts) × (script : List ℕ) × AreRead turns (in_order texts ++ script ∷ []) × WritesRun (run_in seed texts script) old new result)
