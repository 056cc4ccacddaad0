-- The turns that were taken anew, and a whole sweep.
use Rattle.std.specs.Prelude.{◌≡◌, ℕ, ◌+◌, ◌≤◌, ◌<◌, Bool, true, false, List, [], ◌∷◌, Some, Contains, get_or, length, map, slice_get, take}
use Rattle.sc_papers.specs.Market.{Market, student_at, students_of}
use Rattle.sc_papers.specs.declared.rejection.Rejection.{Rejection}
use Rattle.sc_checkpoint.specs.Chains.{logs_in, replaced, students_in, Chain}
use Rattle.sc_ledgers.specs.Cohort.{Cohort}
use Rattle.sc_ledgers.specs.Course.{labels_of}
use Rattle.sc_ledgers.specs.Elsewhere.{cohort_of}
use Rattle.sc_ledgers.specs.Ends.{AreEndsTo}
use Rattle.sc_ledgers.specs.Marks.{marked_in, Marking}
use Rattle.sc_ledgers.specs.Sweep.{AreAmended, AreInRegion, IsRegion, IsSwept, IsThroughout}
use Rattle.sc_ledgers.specs.declared.elsewhere.Stance.{Stance}
use Rattle.sc_ledgers.specs.declared.following.Rows.{Rows}
use Rattle.sc_ledgers.specs.declared.opened.Ledgers.{Ledgers}

-- at which positions, and their segments
pub record Renewed : Type 0 where
  pub positions : List ℕ
  pub chains : List Chain

-- the segments of a run, of which those of these turns have given way
abbrev pub anew : List (List Rejection) → Renewed → List (List Rejection)
anew old renewed = replaced old renewed.positions (logs_in renewed.chains)

-- each chain is of whoever's segment stands at its position
abbrev pub AreTheirs : List ℕ → Renewed → Type 0
AreTheirs students renewed = students_in renewed.chains ≡ map (λ p. get_or students p 0) renewed.positions

-- none of the students at these positions passes
abbrev pub NoneBetween : Market → (ℕ → Bool) → ℕ → ℕ → Type 0
NoneBetween n test from end = (t i : ℕ) → from ≤ t → t < end → slice_get (students_of n) t ≡ Some i → test i ≡ false

-- the positions of those who pass, from one on
abbrev pub AreTurnsOf : Market → (ℕ → Bool) → ℕ → ℕ → List ℕ → Type 0
AreTurnsOf n test from end [] = NoneBetween n test from end
AreTurnsOf n test from end (p ∷ positions) = (from ≤ p) × (p < end) × NoneBetween n test from p × (test (student_at n p) ≡ true) × AreTurnsOf n test (p + 1) end positions

-- what is known in the course of a sweep, before the turn at k
pub record IsSweeping (m : Cohort) (rows : Rows) (reseated test inner : ℕ → Bool) (old : List (List Rejection)) (renewed : Renewed) (k : ℕ) (ledgers : Ledgers) (list : List Stance) (marks : Marking) : Type 0 where
  pub both : AreAmended m (cohort_of rows) rows.amended rows.before.now reseated old
  pub region : IsRegion m.papers rows.papers.now rows.amended test inner
  pub swept : IsSwept m (cohort_of rows) rows.amended old (take k (anew old renewed)) k (labels_of rows.papers.now ledgers.schools.items) list (marked_in rows.papers.now marks.flags) reseated
  pub ended : AreEndsTo rows.papers.now rows.amended (anew old renewed) k ledgers.ends
  pub throughout : IsThroughout rows.papers.now marks reseated
  pub inside : AreInRegion rows.papers.now test inner list marks
  pub as_many : length renewed.positions ≡ length renewed.chains
  pub before : (p : ℕ) → Contains renewed.positions p → p < k

-- a sweep is under way: these turns are left
abbrev pub IsUnderWay : Cohort → Rows → (ℕ → Bool) → (ℕ → Bool) → (ℕ → Bool) → List (List Rejection) → Renewed → Ledgers → List Stance → Marking → List ℕ → Type 0
IsUnderWay m rows reseated test inner old renewed ledgers list marks positions =
    (k : ℕ) × IsSweeping m rows reseated test inner old renewed k ledgers list marks × AreTurnsOf rows.papers.now test k (length old) positions
