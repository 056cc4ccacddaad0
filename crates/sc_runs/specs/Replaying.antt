-- What replaying a journal does, where bytes are known.
use Rattle.std.specs.Prelude.{◌≡◌, ◌⊎◌, ℕ, List, [], ◌∷◌, ◌++◌, Option, Result, Ok, Err}
use Rattle.std.specs.Io.KnownBytes.{Appends, Keeps}
use Rattle.sc_papers.specs.Market.{Market}
use Rattle.sc_papers.specs.Reordering.{IsReordering}
use Rattle.sc_stamps.specs.Verdict.{StampedPapers, unamended}
use Rattle.sc_intake.specs.declared.fault.IntakeFault.{IntakeFault}
use Rattle.sc_journal.specs.Journal.{IsFirstFault, IsReplay}
use Rattle.sc_journal.specs.declared.journal.Tail.{Tail}
use Rattle.sc_report.specs.Whole.{AppendsPrefix}
use Rattle.sc_steps.specs.Inputs.{in_order, Texts, Turn, AreRead}
use Rattle.sc_steps.specs.Opening.{opening_in, EndsUnread, IsReport}
use Rattle.sc_steps.specs.declared.fault.RunFault.{RunFault}
use Rattle.sc_steps.specs.declared.fault.RunFault.TheVariants.{Read, Intake, Journal, WriteOut, WriteJournal, OutOfMemory}
use Rattle.sc_runs.specs.declared.replaying.Replayed.{Replayed}

-- a text is the report after a journal was replayed over papers, which ended so
abbrev pub IsReplayReport : Market → List ℕ → Tail → List ℕ → Type 0
IsReplayReport m journal tail text = (now : StampedPapers) × IsReplay (unamended m) now journal tail × IsReport now.papers text

-- a replay answers the papers after the journal, up to the order of entry, and how it ends, and wrote their report; a prefix
-- of it where the writer failed, and nothing where the inputs or the journal have a fault
abbrev pub WritesReplay : Result Market IntakeFault → List ℕ → Option (List ℕ) → Option (List ℕ) → Result Replayed RunFault → Type 0
WritesReplay reading journal old new (Ok done) =
    (m : Market) × (reading ≡ Ok m) × ((now : StampedPapers) × IsReplay (unamended m) now journal done.tail × IsReordering done.papers now.papers
    × ((text : List ℕ) × IsReport now.papers text × Appends old new text))
WritesReplay reading journal old new (Err (Intake fault)) = (reading ≡ Err fault) × Keeps old new
WritesReplay reading journal old new (Err (Journal fault)) = (m : Market) × (reading ≡ Ok m) × IsFirstFault (unamended m) journal fault × Keeps old new
WritesReplay reading journal old new (Err WriteOut) =
    (m : Market) × (reading ≡ Ok m) × ((text : List ℕ) × (tail : Tail) × IsReplayReport m journal tail text × AppendsPrefix old new text)
WritesReplay reading journal old new (Err OutOfMemory) = Keeps old new
WritesReplay reading journal old new (Err (Read source)) = ⊥
WritesReplay reading journal old new (Err WriteJournal) = ⊥

-- what replaying files did: reading them ended early, and nothing was written; or they were read, each whole,
-- and the journal was replayed
abbrev pub ReplaysFiles : List ℕ → List Turn → Option (List ℕ) → Option (List ℕ) → Result Replayed RunFault → Type 0
ReplaysFiles seed turns old new result = EndsUnread turns old new result
    ⊎ ((texts : Texts) × (journal : List ℕ) × AreRead turns (in_order texts ++ journal ∷ []) × WritesReplay (opening_in seed texts) journal old new result)
