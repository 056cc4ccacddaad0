-- The chain of a turn, over the ledgers of all schools.
use Rattle.std.specs.Prelude.{◌≡◌, ◌⊎◌, ◌==◌, ℕ, ◌<◌, ◌+◌, ◌++◌, Bool, List, [], ◌∷◌, Option, None, Some, true, Contains, get_or, length, nat_eq, position, slice_get}
use Rattle.sc_papers.specs.Market.{Market, choices_of, schools_of, students_of}
use Rattle.sc_papers.specs.Key.{key_of}
use Rattle.sc_papers.specs.WellFormed.{WellFormed}
use Rattle.sc_papers.specs.Log.{next_choice, IsSettled}
use Rattle.sc_papers.specs.Restriction.{joined}
use Rattle.sc_ledgers.specs.Cohort.{Cohort, cut, IsRunTo}
use Rattle.sc_papers.specs.declared.key.Key.{Key}
use Rattle.sc_papers.specs.declared.rejection.Rejection.{Rejection}
use Rattle.sc_ledgers.specs.Ledger.{AreLabelsBefore, AreOwn, InTurn, Relabels}
use Rattle.sc_ledgers.specs.declared.ledger.Label.{Label}

-- the labels at a position
abbrev pub labels_at : List (List Label) → Option ℕ → List Label
labels_at ledgers None = []
labels_at ledgers (Some place) = get_or ledgers place []

-- the labels of a school, by its number
abbrev pub labels_of : Market → List (List Label) → ℕ → List Label
labels_of m ledgers s = labels_at ledgers (position (nat_eq s) (schools_of m))

-- a turn begins: the labels of the turns before are those of a run, and none is of this one
pub record Begins (n : Cohort) (new : List (List Rejection)) (k : ℕ) (labels : ℕ → List Label) : Type 0 where
  pub well : WellFormed n.papers
  pub within : k < length n.papers.students
  pub turn : (i : ℕ) → slice_get (students_of n.papers) k ≡ Some i → n.enters i ≡ true
  pub newer : IsRunTo n k new
  pub as_many : length new ≡ k
  pub before : AreLabelsBefore n new k labels
  pub none : (s : ℕ) (label : Label) → Contains (labels s) label → label.turn ≡ k → ⊥
  pub own : AreOwn n.papers labels

-- in the course of its chain: the one in hand proposes at a rank
pub record Course (n : Cohort) (new : List (List Rejection)) (k : ℕ) (log : List Rejection) (i rank : ℕ) (labels now : ℕ → List Label) : Type 0 where
  pub turn : InTurn n new k log i labels now
  pub own : AreOwn n.papers now
  pub next : next_choice (cut n (k + 1)) log i ≡ slice_get (choices_of n.papers i) rank

-- the chain has ended
pub record Ended (n : Cohort) (new : List (List Rejection)) (k : ℕ) (chain : List Rejection) (labels now : ℕ → List Label) : Type 0 where
  pub settled : IsSettled (cut n (k + 1)) (joined new ++ chain)
  pub relabels : Relabels n new chain k labels now
  pub own : AreOwn n.papers now

-- what a proposal came to: the chain has ended, or goes on with whoever is rejected
abbrev pub Came : Cohort → List (List Rejection) → ℕ → List Rejection → (ℕ → List Label) → (ℕ → List Label) → Option Rejection → Type 0
Came n new k chain labels now None = Ended n new k chain labels now
Came n new k chain labels now (Some e) = InTurn n new k (joined new ++ (chain ++ e ∷ [])) e.student labels now × AreOwn n.papers now × (next_choice (cut n (k + 1)) (joined new ++ chain) e.student ≡ Some e.school)

-- s is the choice after the school that an entry names, in its student's list
abbrev pub IsAfter : Market → Rejection → ℕ → Type 0
IsAfter n e s = (rank : ℕ) × (position (λ t. t == e.school) (choices_of n e.student) ≡ Some rank) × (slice_get (choices_of n e.student) (rank + 1) ≡ Some s)

-- some students and some schools: each of the schools is listed by these students alone, who list no others
abbrev pub AreTogether : Market → (ℕ → Bool) → (ℕ → Bool) → Type 0
AreTogether m test inner = (j s : ℕ) → Contains (choices_of m j) s → inner s ≡ test j

-- labels of a turn have been struck: those of other turns stay, and none has come
pub record AreStruck (k : ℕ) (labels struck : ℕ → List Label) : Type 0 where
  pub kept : (s : ℕ) (label : Label) → Contains (labels s) label → (label.turn ≡ k → ⊥) → Contains (struck s) label
  pub only : (s : ℕ) (label : Label) → Contains (struck s) label → Contains (labels s) label

-- a student has no label of the turn at a school
abbrev pub HasNone : Market → ℕ → ℕ → ℕ → (ℕ → List Label) → Type 0
HasNone n k j s labels = (label : Label) → Contains (labels s) label → label.turn ≡ k → label.key ≡ key_of n j s → ⊥

-- the label of a key at one school is gone
pub record IsUnkeyed (key : Key) (s : ℕ) (labels struck : ℕ → List Label) : Type 0 where
  pub kept : (t : ℕ) (label : Label) → Contains (labels t) label → (label.key ≡ key → ⊥) ⊎ (t ≡ s → ⊥) → Contains (struck t) label
  pub only : (t : ℕ) (label : Label) → Contains (struck t) label → Contains (labels t) label × (t ≡ s → label.key ≡ key → ⊥)

-- a student's labels are gone at the first so many of their choices
pub record AreGone (m : Market) (i ranks : ℕ) (labels left : ℕ → List Label) : Type 0 where
  pub kept : (s : ℕ) (label : Label) → Contains (labels s) label → (label.key.student ≡ i → ⊥) → Contains (left s) label
  pub only : (s : ℕ) (label : Label) → Contains (left s) label → Contains (labels s) label
  pub none : (rank s : ℕ) (label : Label) → rank < ranks → slice_get (choices_of m i) rank ≡ Some s → Contains (left s) label → label.key ≡ key_of m i s → ⊥
