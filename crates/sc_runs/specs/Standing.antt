-- What stands after an opening and a journal, if there is one, and what a call that tells a text of it does, where
-- bytes are known.
use Rattle.std.specs.Prelude.{◌≡◌, ◌⊎◌, ℕ, List, ◌++◌, Option, Result, Ok, Err, ⊤}
use Rattle.std.specs.Io.KnownBytes.{Appends, Keeps}
use Rattle.std.specs.List.{All}
use Rattle.sc_papers.specs.Market.{Market}
use Rattle.sc_papers.specs.Matching.{Matching, IsStudentOptimal}
use Rattle.sc_stamps.specs.Verdict.{StampedPapers, unamended}
use Rattle.sc_intake.specs.declared.fault.IntakeFault.{IntakeFault}
use Rattle.sc_intake.specs.declared.fault.Source.TheVariants as input
use Rattle.sc_journal.specs.Journal.{IsFirstFault, IsReplay}
use Rattle.sc_journal.specs.declared.journal.Tail.{Tail}
use Rattle.sc_report.specs.Table.{table_text}
use Rattle.sc_report.specs.Whole.{AppendsPrefix}
use Rattle.sc_report.specs.declared.table.Table.{Table}
use Rattle.sc_report.specs.declared.watched.Watched.{Watched}
use Rattle.sc_notices.specs.SummaryText.{summary_text}
use Rattle.sc_steps.specs.Inputs.{in_order, opening_turns, turns_if_any, Texts, Turn, AreRead, IsReadIfAny, TakesWithin}
use Rattle.sc_steps.specs.Opening.{opening_in, EndsUnread}
use Rattle.sc_steps.specs.declared.fault.RunFault.{RunFault}
use Rattle.sc_steps.specs.declared.fault.RunFault.TheVariants.{Read, Intake, Journal, WriteOut, WriteJournal, OutOfMemory}
use Rattle.sc_steps.specs.declared.inputs.Opening.{Opening}

-- the turn of a journal's reader, if there is a journal
abbrev pub journal_turns : {R : Type 0} → (R → Option (List ℕ)) → Option (Watched R) → Option (Watched R) → List Turn
journal_turns remaining old new = turns_if_any remaining input.Journal old new

-- of no file of an opening is more taken than may be, nor of a journal, if there is one
abbrev pub AllTakeWithin : {R : Type 0} → (R → Option (List ℕ)) → Opening R → Opening R → Option (Watched R) → Option (Watched R) → Type 0
AllTakeWithin remaining opening opened journal read = All TakesWithin (opening_turns remaining opening opened ++ journal_turns remaining journal read)

-- these papers stand after the amendments of a journal over the papers that were read, and the journal ends so
abbrev pub Stands : Result Market IntakeFault → List ℕ → Market → Tail → Type 0
Stands reading journal now tail = (m : Market) × (reading ≡ Ok m) × ((after : StampedPapers) × IsReplay (unamended m) after journal tail × (now ≡ after.papers))

-- nothing stands: for the first fault of what was read, for that of the journal, or for want of memory
abbrev pub IsStandingFault : Result Market IntakeFault → List ℕ → RunFault → Type 0
IsStandingFault reading journal (Intake fault) = reading ≡ Err fault
IsStandingFault reading journal (Journal fault) = (m : Market) × (reading ≡ Ok m) × IsFirstFault (unamended m) journal fault
IsStandingFault reading journal OutOfMemory = ⊤
IsStandingFault reading journal _ = ⊥

-- a call answers how the journal ends, and wrote such a text of the papers that stand; a prefix of one where the
-- writer failed, and nothing where nothing stands
abbrev pub WritesOfStanding : (Market → List ℕ → Type 0) → Result Market IntakeFault → List ℕ → Option (List ℕ) → Option (List ℕ) → Result Tail RunFault → Type 0
WritesOfStanding Is reading journal old new (Ok tail) = (now : Market) × Stands reading journal now tail × ((text : List ℕ) × Is now text × Appends old new text)
WritesOfStanding Is reading journal old new (Err WriteOut) =
    (now : Market) × (tail : Tail) × Stands reading journal now tail × ((text : List ℕ) × Is now text × AppendsPrefix old new text)
WritesOfStanding Is reading journal old new (Err (Intake fault)) = IsStandingFault reading journal (Intake fault) × Keeps old new
WritesOfStanding Is reading journal old new (Err (Journal fault)) = IsStandingFault reading journal (Journal fault) × Keeps old new
WritesOfStanding Is reading journal old new (Err OutOfMemory) = Keeps old new
WritesOfStanding Is reading journal old new (Err (Read source)) = ⊥
WritesOfStanding Is reading journal old new (Err WriteJournal) = ⊥

-- the same of a text that is written in pieces: at want of memory nothing was written, or a prefix
abbrev pub WritesPiecesOfStanding : (Market → List ℕ → Type 0) → Result Market IntakeFault → List ℕ → Option (List ℕ) → Option (List ℕ) → Result Tail RunFault → Type 0
WritesPiecesOfStanding Is reading journal old new (Ok tail) = WritesOfStanding Is reading journal old new (Ok tail)
WritesPiecesOfStanding Is reading journal old new (Err OutOfMemory) = Keeps old new ⊎ WritesOfStanding Is reading journal old new (Err WriteOut)
WritesPiecesOfStanding Is reading journal old new (Err fault) = WritesOfStanding Is reading journal old new (Err fault)

-- what a call that tells of files did, given the turns of the opening and of the journal: reading them ended early,
-- and nothing was written; or they were read, each whole, and it did this to the papers that were read, with the journal
abbrev pub TellsFiles : {A : Type 0} → (Result Market IntakeFault → List ℕ → Option (List ℕ) → Option (List ℕ) → Result A RunFault → Type 0)
    → List ℕ → List Turn → List Turn → Option (List ℕ) → Option (List ℕ) → Result A RunFault → Type 0
TellsFiles Does seed opening journal old new result = EndsUnread (opening ++ journal) old new result
    ⊎ ((texts : Texts) × (text : List ℕ) × AreRead opening (in_order texts) × IsReadIfAny journal text × Does (opening_in seed texts) text old new result)

-- a text is the summary of the papers under their student-optimal stable matching
abbrev pub IsSummary : Market → List ℕ → Type 0
IsSummary m text = (a : Matching) × IsStudentOptimal m a × (text ≡ summary_text m a)

-- a text is a table of the report of the papers under their student-optimal stable matching
abbrev pub IsTable : Table → Market → List ℕ → Type 0
IsTable table m text = (a : Matching) × IsStudentOptimal m a × (text ≡ table_text m a table)
