-- What the files of an opening make, and what matching them does to the writer's bytes, where those are known.
use Rattle.std.specs.Prelude.{◌≡◌, ◌⊎◌, ℕ, Bool, true, false, List, Option, Result, Ok, Err, IsErrAnd}
use Rattle.std.specs.Io.KnownBytes.{Appends, Keeps}
use Rattle.sc_papers.specs.Log.{IsSettled}
use Rattle.sc_papers.specs.Market.{Market}
use Rattle.sc_papers.specs.Matching.{Matching, IsStudentOptimal}
use Rattle.sc_papers.specs.declared.rejection.Rejection.{Rejection}
pub use Rattle.sc_intake.specs.Papers.{papers_in}
use Rattle.sc_intake.specs.declared.fault.IntakeFault.{IntakeFault}
use Rattle.sc_report.specs.LogText.{log_text}
use Rattle.sc_report.specs.Text.{IsReportText}
use Rattle.sc_report.specs.Whole.{AppendsPrefix}
use Rattle.sc_steps.specs.Inputs.{in_order, Texts, Turn, AreRead, EndsAmong}
use Rattle.sc_steps.specs.declared.fault.RunFault.{RunFault}
use Rattle.sc_steps.specs.declared.fault.RunFault.TheVariants.{Intake, WriteOut, OutOfMemory}

-- the papers of an opening's texts, or their first fault
abbrev pub opening_in : List ℕ → Texts → Result Market IntakeFault
opening_in seed texts = papers_in seed texts.schools texts.roster texts.lists

-- a writer was given one of these texts whole at `Ok`, a prefix of one where it failed, and nothing at
-- want of memory
abbrev pub WritesText : (List ℕ → Type 0) → Option (List ℕ) → Option (List ℕ) → Result (Unit {0}) RunFault → Type 0
WritesText Is old new (Ok done) = (text : List ℕ) × Is text × Appends old new text
WritesText Is old new (Err WriteOut) = (text : List ℕ) × Is text × AppendsPrefix old new text
WritesText Is old new (Err OutOfMemory) = Keeps old new
WritesText Is old new (Err _) = ⊥

-- a text is that of a log that is settled for the papers, and so certifies their matching
abbrev pub IsCertificate : Market → List ℕ → Type 0
IsCertificate m text = (log : List Rejection) × IsSettled m log × (text ≡ log_text log)

-- a text is the report of the papers under their student-optimal stable matching
abbrev pub IsReport : Market → List ℕ → Type 0
IsReport m text = (a : Matching) × IsStudentOptimal m a × IsReportText m a text

-- what matching papers is to write: the report, or the log where that is asked for
abbrev pub IsMatchText : Bool → Market → List ℕ → Type 0
IsMatchText false m text = IsReport m text
IsMatchText true m text = IsCertificate m text

-- matching wrote its text of the papers that were read, and nothing where they have a fault
abbrev pub WritesMatch : {A : Type 0} → Bool → Result Market IntakeFault → Option (List ℕ) → Option (List ℕ) → Result A RunFault → Type 0
WritesMatch show_log reading old new (Ok done) = (m : Market) × (reading ≡ Ok m) × WritesText (IsMatchText show_log m) old new (Ok tt)
WritesMatch show_log reading old new (Err WriteOut) = (m : Market) × (reading ≡ Ok m) × WritesText (IsMatchText show_log m) old new (Err WriteOut)
WritesMatch show_log reading old new (Err (Intake fault)) = (reading ≡ Err fault) × Keeps old new
WritesMatch show_log reading old new (Err OutOfMemory) = Keeps old new
WritesMatch show_log reading old new (Err _) = ⊥

-- reading the inputs of a call ended early, and nothing was written
abbrev pub EndsUnread : {A : Type 0} → List Turn → Option (List ℕ) → Option (List ℕ) → Result A RunFault → Type 0
EndsUnread turns old new result = IsErrAnd result (EndsAmong turns) × Keeps old new

-- what matching files did: reading them ended early, and nothing was written; or they were read, each whole,
-- and matched
abbrev pub MatchesFiles : {A : Type 0} → List ℕ → Bool → List Turn → Option (List ℕ) → Option (List ℕ) → Result A RunFault → Type 0
MatchesFiles seed show_log turns old new result = EndsUnread turns old new result
    ⊎ ((texts : Texts) × AreRead turns (in_order texts) × WritesMatch show_log (opening_in seed texts) old new result)

-- the papers are those of an opening's files, each of which was read whole
abbrev pub ArePapersOf : List ℕ → List Turn → Market → Type 0
ArePapersOf seed turns m = (texts : Texts) × AreRead turns (in_order texts) × (opening_in seed texts ≡ Ok m)
