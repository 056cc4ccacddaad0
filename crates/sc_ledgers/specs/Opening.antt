-- The labels that a turn leaves.
use Rattle.std.specs.Prelude.{◌≡◌, ◌⊎◌, ℕ, ◌<◌, Bool, true, List, [], Option, Some, Contains, get_or, length, slice_get}
use Rattle.sc_papers.specs.Market.{Market, choices_of}
use Rattle.sc_papers.specs.Key.{key_of}
use Rattle.sc_papers.specs.declared.rejection.Rejection.{Rejection}
use Rattle.sc_ledgers.specs.Cohort.{Cohort}
use Rattle.sc_ledgers.specs.Course.{IsAfter}
use Rattle.sc_ledgers.specs.Known.{HasEachKey}
use Rattle.sc_ledgers.specs.Ledger.{AreLabelsBefore, AreOwn}
use Rattle.sc_ledgers.specs.declared.ledger.Label.{Label}

-- a student asks a school in a turn: who enters asks the first of their choices, and whoever is rejected asks the next one
abbrev pub AsksIn : Market → ℕ → List Rejection → ℕ → ℕ → Type 0
AsksIn m i segment j s = ((j ≡ i) × (slice_get (choices_of m i) 0 ≡ Some s)) ⊎ ((e : Rejection) × Contains segment e × (e.student ≡ j) × IsAfter m e s)

-- a school rejects a student in a turn
abbrev pub RejectsIn : List Rejection → ℕ → ℕ → Type 0
RejectsIn segment j s = Contains segment (record { student = j; school = s })

-- the labels of a turn, or of the first of its rejections, have been put with those of the turns before: of those who ask, all but some whom
-- the school rejects in it
pub record AreNoted (m : Market) (k i : ℕ) (segment whole : List Rejection) (labels noted : ℕ → List Label) : Type 0 where
  pub kept : (s : ℕ) (label : Label) → Contains (labels s) label → Contains (noted s) label
  pub there : (j s : ℕ) → AsksIn m i segment j s → (RejectsIn whole j s → ⊥) → Contains (noted s) (record { key = key_of m j s; turn = k })
  pub only : (s : ℕ) (label : Label) → Contains (noted s) label → Contains (labels s) label ⊎ ((j : ℕ) × AsksIn m i segment j s × (label ≡ record { key = key_of m j s; turn = k }))

-- the labels with one more of a student, if they have such a choice, unless the school rejects them in the turn
pub record IsNotedAt (m : Market) (k j : ℕ) (choice : Option ℕ) (whole : List Rejection) (labels noted : ℕ → List Label) : Type 0 where
  pub kept : (s : ℕ) (label : Label) → Contains (labels s) label → Contains (noted s) label
  pub there : (s : ℕ) → choice ≡ Some s → (RejectsIn whole j s → ⊥) → Contains (noted s) (record { key = key_of m j s; turn = k })
  pub only : (s : ℕ) (label : Label) → Contains (noted s) label → Contains (labels s) label ⊎ ((choice ≡ Some s) × (label ≡ record { key = key_of m j s; turn = k }))

-- everybody enters
abbrev pub everybody : ℕ → Bool
everybody j = true

-- the labels of the first k turns of a run: each is of one of them, and has its student's key
pub record AreNotedTo (n : Cohort) (segments : List (List Rejection)) (k : ℕ) (labels : ℕ → List Label) : Type 0 where
  pub before : AreLabelsBefore n segments k labels
  pub turns : (s : ℕ) (label : Label) → Contains (labels s) label → label.turn < k
  pub own : AreOwn n.papers labels

-- a ledger for each list, at its position, of the keys in it
pub record AreLedgersOf (lists ledgers : List (List Label)) : Type 0 where
  pub one_each : length ledgers ≡ length lists
  pub kept : (p : ℕ) → p < length lists → HasEachKey (get_or lists p []) (get_or ledgers p [])
