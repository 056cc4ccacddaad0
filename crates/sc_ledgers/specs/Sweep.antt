-- The turns from the rewind point on, in both runs.
use Rattle.std.specs.Prelude.{◌≡◌, ℕ, ◌+◌, ◌++◌, ◌≤◌, Bool, true, false, List, [], ◌∷◌, Option, None, Some, IfSome, Contains, get_or, length, nat_eq, position, slice_get}
use Rattle.sc_papers.specs.Key.{is_ahead}
use Rattle.sc_papers.specs.Market.{Market, choices_of, schools_of, seats_of, students_of}
use Rattle.sc_papers.specs.WellFormed.{WellFormed}
use Rattle.sc_papers.specs.Restriction.{joined}
use Rattle.sc_ledgers.specs.Cohort.{Cohort, cut, IsRunTo}
use Rattle.sc_papers.specs.declared.rejection.Rejection.{Rejection}
use Rattle.sc_ledgers.specs.Elsewhere.{cohort_of, is_aside, AreAmong, is_same, old_row, AreAtMarked, AreStances}
use Rattle.sc_ledgers.specs.Ledger.{log_at, AreLabelsBefore, AreLabelsFrom, AreOwn}
use Rattle.sc_ledgers.specs.Course.{AreTogether, Ended}
use Rattle.sc_ledgers.specs.Marks.{marked_in, FlagsPass, Marking}
use Rattle.sc_ledgers.specs.declared.elsewhere.Stance.{Stance}
use Rattle.sc_ledgers.specs.declared.following.Rows.{Rows}
use Rattle.sc_ledgers.specs.declared.ledger.Label.{Label}

-- whether a student is the one whom an amendment names, if it names one
abbrev pub is_amended : Option ℕ → ℕ → Bool
is_amended amended j = is_same amended (Some j)

-- what is known where the student at k has their turn, of both papers and runs
pub record IsDue (m n : Cohort) (amended : Option ℕ) (before : List ℕ) (old new : List (List Rejection)) (k i : ℕ) (labels : ℕ → List Label) (list : List Stance) : Type 0 where
  pub well_m : WellFormed m.papers
  pub well_n : WellFormed n.papers
  pub here_m : slice_get (students_of m.papers) k ≡ Some i
  pub here_n : slice_get (students_of n.papers) k ≡ Some i
  pub students : students_of n.papers ≡ students_of m.papers
  -- who is amended had other choices, and nobody else had
  pub rows : (j : ℕ) → choices_of m.papers j ≡ old_row n.papers amended before j
  pub older : IsRunTo m (length (students_of m.papers)) old
  pub all : (j : ℕ) → m.enters j ≡ true
  pub entering : (j : ℕ) → is_amended amended j ≡ false → n.enters j ≡ true
  pub newer : IsRunTo n k new
  pub as_many : length new ≡ k
  pub labels_before : AreLabelsBefore n new k labels
  pub labels_from : AreLabelsFrom m n old new k (is_amended amended) labels
  pub own : AreOwn n.papers labels
  pub others : (s : ℕ) (label : Label) → Contains (labels s) label → k ≤ label.turn → is_amended amended label.key.student ≡ false
  pub stances : AreStances (cut m k) (cut n k) (log_at old k) (joined new) list
  pub held : (j : ℕ) → is_amended amended j ≡ true → is_aside list j ≡ true
  -- whoever else has a stance stands elsewhere
  pub apart : (x : Stance) → Contains list x → is_amended amended x.student ≡ false → x.new ≡ x.old → ⊥

-- and once the turn was taken anew, by this chain
pub record IsRetaken (m n : Cohort) (amended : Option ℕ) (old new : List (List Rejection)) (k : ℕ) (chain : List Rejection) (labels now : ℕ → List Label) (list : List Stance) : Type 0 where
  pub ended : Ended n new k chain labels now
  pub stances : AreStances (cut m (k + 1)) (cut n (k + 1)) (log_at old (k + 1)) (joined (new ++ chain ∷ [])) list
  pub held : (j : ℕ) → is_amended amended j ≡ true → is_aside list j ≡ true
  pub apart : (x : Stance) → Contains list x → is_amended amended x.student ≡ false → x.new ≡ x.old → ⊥

-- the chain of a turn has run, and the stances have followed it, whatever the other run
pub record HasRun (rows : Rows) (new : List (List Rejection)) (k : ℕ) (chain : List Rejection) (labels now : ℕ → List Label) (list after : List Stance) : Type 0 where
  pub ended : Ended (cohort_of rows) new k chain labels now
  pub among : (test inner : ℕ → Bool) → AreTogether rows.papers.now test inner → ((i : ℕ) → slice_get (students_of rows.papers.now) k ≡ Some i → test i ≡ true) → AreAmong test list → AreAmong test after
  pub stances : (m : Market) (log : List Rejection) → WellFormed rows.papers.now → AreStances m (cut (cohort_of rows) (k + 1)) log (joined new) list → AreStances m (cut (cohort_of rows) (k + 1)) log (joined new ++ chain) after

-- what is known of both papers throughout: who is amended had other choices and keys, and the seats differ at some schools alone
pub record AreAmended (m n : Cohort) (amended : Option ℕ) (before : List ℕ) (reseated : ℕ → Bool) (old : List (List Rejection)) : Type 0 where
  pub well_m : WellFormed m.papers
  pub well_n : WellFormed n.papers
  pub students : students_of n.papers ≡ students_of m.papers
  pub schools : schools_of n.papers ≡ schools_of m.papers
  pub rows : (j : ℕ) → choices_of m.papers j ≡ old_row n.papers amended before j
  pub seats : (s : ℕ) → reseated s ≡ false → seats_of n.papers s ≡ seats_of m.papers s
  pub ahead : (s i j : ℕ) → is_amended amended i ≡ false → is_amended amended j ≡ false → is_ahead n.papers s i j ≡ is_ahead m.papers s i j
  pub older : IsRunTo m (length (students_of m.papers)) old
  -- everybody enters in the old run; who is amended may not in the new one
  pub all : (j : ℕ) → m.enters j ≡ true
  pub entering : (j : ℕ) → is_amended amended j ≡ false → n.enters j ≡ true

-- what is known before the turn at k
pub record IsSwept (m n : Cohort) (amended : Option ℕ) (old new : List (List Rejection)) (k : ℕ) (labels : ℕ → List Label) (list : List Stance) (marked reseated : ℕ → Bool) : Type 0 where
  pub newer : IsRunTo n k new
  pub as_many : length new ≡ k
  pub labels_before : AreLabelsBefore n new k labels
  pub labels_from : AreLabelsFrom m n old new k (is_amended amended) labels
  pub own : AreOwn n.papers labels
  pub others : (s : ℕ) (label : Label) → Contains (labels s) label → k ≤ label.turn → is_amended amended label.key.student ≡ false
  pub stances : AreStances (cut m k) (cut n k) (log_at old k) (joined new) list
  pub held : (j : ℕ) → is_amended amended j ≡ true → is_aside list j ≡ true
  pub apart : (x : Stance) → Contains list x → is_amended amended x.student ≡ false → x.new ≡ x.old → ⊥
  pub at_marked : AreAtMarked marked list
  pub always : (s : ℕ) → reseated s ≡ true → marked s ≡ true

-- whoever lists a marked school is in the region
abbrev pub AreInside : Market → (ℕ → Bool) → (ℕ → Bool) → Type 0
AreInside m test marked = (s j : ℕ) → marked s ≡ true → Contains (choices_of m j) s → test j ≡ true

-- a school whose seats differ is the one that is marked throughout
abbrev pub IsThroughout : Market → Marking → (ℕ → Bool) → Type 0
IsThroughout m marks reseated = (s : ℕ) → reseated s ≡ true → (p : ℕ) × (position (nat_eq s) (schools_of m) ≡ Some p) × (marks.always ≡ Some p)

-- a turn is to be taken, whose segment this was in the old run
pub record IsNext (m n : Cohort) (amended : Option ℕ) (before : List ℕ) (reseated : ℕ → Bool) (old new : List (List Rejection)) (k : ℕ) (segment : List Rejection) (labels : ℕ → List Label) (list : List Stance) (marks : Marking) : Type 0 where
  pub both : AreAmended m n amended before reseated old
  pub swept : IsSwept m n amended old new k labels list (marked_in n.papers marks.flags) reseated
  pub throughout : IsThroughout n.papers marks reseated
  pub here : slice_get old k ≡ Some segment

-- it was taken: the segment is this one now
pub record IsTaken (m n : Cohort) (amended : Option ℕ) (reseated : ℕ → Bool) (old new : List (List Rejection)) (k : ℕ) (segment : List Rejection) (labels : ℕ → List Label) (list : List Stance) (marks : Marking) : Type 0 where
  pub swept : IsSwept m n amended old (new ++ segment ∷ []) (k + 1) labels list (marked_in n.papers marks.flags) reseated
  pub throughout : IsThroughout n.papers marks reseated

-- a region of students and schools, by the old papers and by the new ones: whoever is amended is in it
pub record IsRegion (m n : Market) (amended : Option ℕ) (test inner : ℕ → Bool) : Type 0 where
  pub old : AreTogether m test inner
  pub new : AreTogether n test inner
  pub theirs : (j : ℕ) → is_amended amended j ≡ true → test j ≡ true

-- whoever stands elsewhere is in it, and so is each marked school
pub record AreInRegion (n : Market) (test inner : ℕ → Bool) (list : List Stance) (marks : Marking) : Type 0 where
  pub among : AreAmong test list
  pub marked : FlagsPass (λ p. inner (get_or (schools_of n) p 0)) marks.flags
  pub one : IfSome marks.always (λ p. inner (get_or (schools_of n) p 0) ≡ true)

-- at first whoever is amended alone has a stance: nowhere in either run
abbrev pub first_stances : Option ℕ → List Stance
first_stances None = []
first_stances (Some i) = record { student = i; old = None; new = None } ∷ []
