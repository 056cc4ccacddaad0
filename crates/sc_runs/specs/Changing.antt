-- What telling whose place the amendments of a journal changed does, where bytes are known.
use Rattle.std.specs.Prelude.{◌≡◌, ◌⊎◌, ℕ, ◌<◌, ◌==◌, List, [], ◌∷◌, ◌++◌, Option, Result, Ok, Err, count_by}
use Rattle.std.specs.Io.KnownBytes.{Keeps}
use Rattle.sc_papers.specs.Market.{Market}
use Rattle.sc_papers.specs.Matching.{Matching, IsStudentOptimal}
use Rattle.sc_intake.specs.declared.fault.IntakeFault.{IntakeFault}
use Rattle.sc_journal.specs.declared.journal.Tail.{Tail}
use Rattle.sc_notices.specs.ChangesText.{changes_text}
use Rattle.sc_steps.specs.Inputs.{in_order, Texts, Turn, AreRead}
use Rattle.sc_steps.specs.Opening.{opening_in, EndsUnread}
use Rattle.sc_steps.specs.declared.fault.RunFault.{RunFault}
use Rattle.sc_runs.specs.Standing.{Stands, WritesPiecesOfStanding}
use Rattle.sc_runs.specs.declared.changing.Changed.{Changed}
use Rattle.sc_runs.specs.declared.changing.Changed.TheVariants.{Written, NoLine}

-- how many whole lines a text has: as many as newlines, byte 10
abbrev pub whole_lines : List ℕ → ℕ
whole_lines text = count_by (λ byte. byte == 10) text

-- a text begins with these lines, which are so many, each with its newline
pub record AreFirstLines (count : ℕ) (text lines : List ℕ) : Type 0 where
  pub rest : List ℕ
  pub cut : text ≡ lines ++ rest
  pub counted : whole_lines lines ≡ count
  pub whole : (lines ≡ []) ⊎ ((body : List ℕ) × (lines ≡ body ++ 10 ∷ []))

-- a text tells whose place differs between the papers that stand after the first lines of a journal, so many, and those
-- that stand after all of it, each under their student-optimal stable matching
pub record IsChange (since : ℕ) (reading : Result Market IntakeFault) (journal : List ℕ) (now : Market) (text : List ℕ) : Type 0 where
  pub lines : List ℕ
  pub first : AreFirstLines since journal lines
  pub before : Market
  pub ending : Tail
  pub stands : Stands reading lines before ending
  pub earlier : Matching
  pub later : Matching
  pub earlier_optimal : IsStudentOptimal before earlier
  pub later_optimal : IsStudentOptimal now later
  pub told : text ≡ changes_text before earlier now later

-- whose place changed since a line is written of the papers that stand; where the journal has no such whole line, that
-- is answered and nothing is written
abbrev pub TellsChange : ℕ → Result Market IntakeFault → List ℕ → Option (List ℕ) → Option (List ℕ) → Result Changed RunFault → Type 0
TellsChange since reading journal old new (Ok (Written tail)) = WritesPiecesOfStanding (IsChange since reading journal) reading journal old new (Ok tail)
TellsChange since reading journal old new (Ok (NoLine line)) =
    (line ≡ since) × (whole_lines journal < since) × ((now : Market) × (tail : Tail) × Stands reading journal now tail) × Keeps old new
TellsChange since reading journal old new (Err fault) = WritesPiecesOfStanding (IsChange since reading journal) reading journal old new (Err fault)

-- what telling it of files did: reading them ended early, and nothing was written; or they were read, each whole, and
-- this was done
abbrev pub ChangesFiles : ℕ → List ℕ → List Turn → Option (List ℕ) → Option (List ℕ) → Result Changed RunFault → Type 0
ChangesFiles since seed turns old new result = EndsUnread turns old new result
    ⊎ ((texts : Texts) × (journal : List ℕ) × AreRead turns (in_order texts ++ journal ∷ []) × TellsChange since (opening_in seed texts) journal old new result)
