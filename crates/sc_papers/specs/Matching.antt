-- Matchings, and what makes one stable and student-optimal. Nothing here knows of proposals, logs
-- or an order of entry: a matching is compared with all matchings of the same papers.
--
-- Sources: D. Gale and L. S. Shapley, College Admissions and the Stability of Marriage (1962);
-- A. Abdulkadiroğlu and T. Sönmez, School Choice: A Mechanism Design Approach (2003).
use Rattle.std.specs.Prelude.{◌≡◌, ◌⊎◌, ℕ, ◌≤◌, ◌<◌, ◌==◌, Bool, true, false, List, Option, None, Some, Contains, count_by}
use Rattle.std.specs.List.{slice_get}
use Rattle.std.specs.Option.{option_map_or}
use Rattle.sc_papers.specs.Market.{Market, students_of, choices_of, seats_of}
use Rattle.sc_papers.specs.Key.{is_ahead}

-- what each student has, by the student's number: a school, or none
abbrev pub Matching : Type 0
Matching = ℕ → Option ℕ

-- how many students of the papers pass a test
unfoldable pub how_many : Market → (ℕ → Bool) → ℕ
how_many m test = count_by test (students_of m)

-- whether student i has school s
abbrev pub has : Matching → ℕ → ℕ → Bool
has a s i = option_map_or (λ t. t == s) (a i) false

-- how many students have school s
abbrev pub held : Market → Matching → ℕ → ℕ
held m a s = how_many m (has a s)

-- a student has only a school that the student lists
abbrev pub IsMatching : Market → Matching → Type 0
IsMatching m a = (i s : ℕ) → a i ≡ Some s → Contains (choices_of m i) s

-- each school is given to at most as many students as it has seats
abbrev pub WithinSeats : Market → Matching → Type 0
WithinSeats m a = (s : ℕ) → held m a s ≤ seats_of m s

-- s stands in the list at a place before t
abbrev pub StandsBefore : List ℕ → ℕ → ℕ → Type 0
StandsBefore xs s t = (j : ℕ) × (k : ℕ) × (j < k) × (slice_get xs j ≡ Some s) × (slice_get xs k ≡ Some t)

-- student i prefers s to what is given: s stands in i's choices, and what is given is none or
-- stands later in them
abbrev pub Prefers : Market → ℕ → ℕ → Option ℕ → Type 0
Prefers m i s None = Contains (choices_of m i) s
Prefers m i s (Some t) = StandsBefore (choices_of m i) s t

-- student i and school s block: i prefers s to what i has, and s has a free seat or i is ahead
-- there of a student who has s (Gale and Shapley; the free seat is this project's addition)
pub record Blocks (m : Market) (a : Matching) (i s : ℕ) : Type 0 where
  pub preferred : Prefers m i s (a i)
  pub better : (held m a s < seats_of m s) ⊎ ((j : ℕ) × (a j ≡ Some s) × (is_ahead m s i j ≡ true))

-- a matching of the papers, within seats, that no student and school block
pub record IsStable (m : Market) (a : Matching) : Type 0 where
  pub matching : IsMatching m a
  pub within_seats : WithinSeats m a
  pub unblocked : (i s : ℕ) → Blocks m a i s → ⊥

-- stable, and no student prefers what another stable matching gives (Gale and Shapley, Theorem 2)
pub record IsStudentOptimal (m : Market) (a : Matching) : Type 0 where
  pub stable : IsStable m a
  pub best : (other : Matching) → IsStable m other → (i s : ℕ) → other i ≡ Some s → Prefers m i s (a i) → ⊥
