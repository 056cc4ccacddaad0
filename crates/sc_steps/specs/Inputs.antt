-- What the inputs of a call are, and what reading them does: one after the other, each whole, before any is
-- looked into. None may be longer than 64 MiB.
use Rattle.std.specs.Prelude.{◌≡◌, ◌⊎◌, ℕ, ◌<◌, ◌≤◌, Bool, true, List, [], ◌∷◌, ◌++◌, length, Option, None, Some, ⊤}
use Rattle.std.specs.List.{All}
use Rattle.sc_intake.specs.Fault.{fault_at}
use Rattle.sc_intake.specs.declared.fault.Cause.TheVariants.{TooLong}
use Rattle.sc_intake.specs.declared.fault.Source.{Source}
use Rattle.sc_intake.specs.declared.fault.Source.TheVariants as input
use Rattle.sc_report.specs.Watched.{device_of, has_failed}
use Rattle.sc_report.specs.Whole.{GivesAtMost}
use Rattle.sc_report.specs.declared.watched.Watched.{Watched}
use Rattle.sc_steps.specs.declared.inputs.Opening.{Opening}
use Rattle.sc_steps.specs.declared.fault.RunFault.{RunFault}
use Rattle.sc_steps.specs.declared.fault.RunFault.TheVariants.{Read, Intake, OutOfMemory}

-- an input in its turn: which it is, the bytes that its reader has left, where those are known, and whether a
-- call on the reader has failed, each before and after
pub record Turn : Type 0 where
  pub source : Source
  pub left_before : Option (List ℕ)
  pub left_after : Option (List ℕ)
  pub failed_before : Bool
  pub failed_after : Bool

-- the turn of a reader, whose bytes are known by `remaining`
abbrev pub turn_of : {R : Type 0} → (R → Option (List ℕ)) → Source → Watched R → Watched R → Turn
turn_of remaining source old new = record {
  source = source;
  left_before = remaining (device_of old);
  left_after = remaining (device_of new);
  failed_before = has_failed old;
  failed_after = has_failed new;
}

-- the files of an opening, in the order in which they are read
abbrev pub opening_turns : {R : Type 0} → (R → Option (List ℕ)) → Opening R → Opening R → List Turn
opening_turns remaining old new =
    turn_of remaining input.Schools old.schools new.schools
    ∷ turn_of remaining input.Roster old.roster new.roster
    ∷ turn_of remaining input.Lists old.lists new.lists
    ∷ []

-- the files of an opening, and an input that is read after them
abbrev pub turns_with : {R : Type 0} → (R → Option (List ℕ)) → Opening R → Opening R → Source → Watched R → Watched R → List Turn
turns_with remaining old new source last left = opening_turns remaining old new ++ turn_of remaining source last left ∷ []

-- the turn of a reader, if there is one
abbrev pub turns_if_any : {R : Type 0} → (R → Option (List ℕ)) → Source → Option (Watched R) → Option (Watched R) → List Turn
turns_if_any remaining source None new = []
turns_if_any remaining source (Some old) None = []
turns_if_any remaining source (Some old) (Some new) = turn_of remaining source old new ∷ []

-- a text is the whole of what a reader had, where its bytes are known
abbrev pub IsWhole : Option (List ℕ) → List ℕ → Type 0
IsWhole None text = ⊤
IsWhole (Some bytes) text = text ≡ bytes

-- a reader was read to its end and gave this text, where its bytes are known
abbrev pub ReadsToEnd : Option (List ℕ) → Option (List ℕ) → List ℕ → Type 0
ReadsToEnd None left text = ⊤
ReadsToEnd (Some bytes) None text = ⊥
ReadsToEnd (Some bytes) (Some left) text = (text ≡ bytes) × (left ≡ [])

-- an input was read to its end, and this is its text: it is not too long, and no call on its reader failed
pub record IsRead (turn : Turn) (text : List ℕ) : Type 0 where
  pub whole : ReadsToEnd turn.left_before turn.left_after text
  pub within : length text ≤ 67108864
  pub unfailed : turn.failed_after ≡ turn.failed_before

-- an input is longer than 64 MiB, and no call on its reader failed
pub record IsTooLong (turn : Turn) : Type 0 where
  pub text : List ℕ
  pub whole : IsWhole turn.left_before text
  pub longer : 67108864 < length text
  pub unfailed : turn.failed_after ≡ turn.failed_before

-- reading an input ended early: its reader failed, it is too long, or there was no memory for it
abbrev pub EndsReading : Turn → RunFault → Type 0
EndsReading turn (Read source) = (source ≡ turn.source) × (turn.failed_after ≡ true)
EndsReading turn (Intake fault) = (fault ≡ fault_at turn.source 0 TooLong) × IsTooLong turn
EndsReading turn OutOfMemory = turn.failed_after ≡ turn.failed_before
EndsReading turn _ = ⊥

-- an input was not come to: no byte of it was taken, and no call on its reader failed
abbrev pub IsUntouched : Turn → Type 0
IsUntouched turn = (turn.left_after ≡ turn.left_before) × (turn.failed_after ≡ turn.failed_before)

-- inputs were read one after the other, and these are their texts
abbrev pub AreRead : List Turn → List (List ℕ) → Type 0
AreRead [] [] = ⊤
AreRead [] (text ∷ texts) = ⊥
AreRead (turn ∷ rest) [] = ⊥
AreRead (turn ∷ rest) (text ∷ texts) = IsRead turn text × AreRead rest texts

-- an input was read whole, if there is one, and this is its text, which is empty where there is none
abbrev pub IsReadIfAny : List Turn → List ℕ → Type 0
IsReadIfAny [] text = text ≡ []
IsReadIfAny (turn ∷ rest) text = AreRead (turn ∷ rest) (text ∷ [])

-- inputs were read one after the other, until reading one of them ended early; those after it were not come to
abbrev pub EndsAmong : List Turn → RunFault → Type 0
EndsAmong [] fault = ⊥
EndsAmong (turn ∷ rest) fault = (EndsReading turn fault × All IsUntouched rest) ⊎ ((text : List ℕ) × IsRead turn text × EndsAmong rest fault)

-- no more was taken of an input than one byte past 64 MiB
abbrev pub TakesWithin : Turn → Type 0
TakesWithin turn = GivesAtMost 67108865 turn.left_before turn.left_after

-- the texts of an opening's files
pub record Texts : Type 0 where
  pub schools : List ℕ
  pub roster : List ℕ
  pub lists : List ℕ

-- the texts, in the order in which they are read
abbrev pub in_order : Texts → List (List ℕ)
in_order texts = texts.schools ∷ texts.roster ∷ texts.lists ∷ []
