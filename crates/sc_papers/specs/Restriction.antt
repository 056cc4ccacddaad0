-- Papers with some of their students alone, and logs in segments, one for each student.
use Rattle.std.specs.Prelude.{◌≡◌, ℕ, ◌≤◌, ◌==◌, Bool, true, false, not, List, length, filter, take, flat_map, Contains}
use Rattle.std.specs.List.{list_any}
use Rattle.sc_papers.specs.Market.{Market, students_of, choices_of, seats_of, zone_at}
use Rattle.sc_papers.specs.Log.{IsSettled}
use Rattle.sc_papers.specs.declared.rejection.Rejection.{Rejection}

-- the papers restricted to the students whose number passes: the same seed and schools, and those
-- students in their order
unfoldable pub restricted : Market → (ℕ → Bool) → Market
restricted m test = record m { students = filter (λ entry. test entry.0) m.students }

-- the papers cut at k: restricted to their first k students
unfoldable pub cut : Market → ℕ → Market
cut m k = record m { students = take k m.students }

-- whether a student is among the first k
abbrev pub is_among_first : Market → ℕ → ℕ → Bool
is_among_first m k i = list_any (λ j. j == i) (take k (students_of m))

-- the log that segments make, joined in their order
abbrev pub joined : List (List Rejection) → List Rejection
joined segments = flat_map (λ segment. segment) segments

-- a segmented log: one segment for each student in order of entry, such that for every k the first
-- k, joined, are settled for the papers cut at k
pub record IsSegmented (m : Market) (segments : List (List Rejection)) : Type 0 where
  pub one_each : length segments ≡ length (students_of m)
  pub settled : (k : ℕ) → k ≤ length segments → IsSettled (cut m k) (joined (take k segments))

-- the entries of a log whose student passes
abbrev pub entries_of : (ℕ → Bool) → List Rejection → List Rejection
entries_of test log = filter (λ entry. test entry.student) log

-- the students who don't pass
abbrev pub outside : (ℕ → Bool) → ℕ → Bool
outside test = λ i. not (test i)

-- no student who passes lists a school that a student who doesn't pass lists
pub record AreApart (m : Market) (test : ℕ → Bool) : Type 0 where
  pub none_shared : (i j s : ℕ) → test i ≡ true → test j ≡ false → Contains (choices_of m i) s → Contains (choices_of m j) s → ⊥

-- papers that are alike up to k: they have the same seed, the same first k students, the same zones,
-- and the same seats of each school that one of these students lists
pub record AlikeUpTo (k : ℕ) (m n : Market) : Type 0 where
  pub seed : n.seed ≡ m.seed
  pub students : take k n.students ≡ take k m.students
  pub zones : (s : ℕ) → zone_at n s ≡ zone_at m s
  pub seats : (i s : ℕ) → Contains (choices_of (cut m k) i) s → seats_of n s ≡ seats_of m s

-- papers that are alike outside a set: they have the same seed, the same students who don't pass, the
-- same zones, and the same seats of each school that one of these students lists
pub record AlikeOutside (test : ℕ → Bool) (m n : Market) : Type 0 where
  pub seed : n.seed ≡ m.seed
  pub students : filter (λ entry. outside test entry.0) n.students ≡ filter (λ entry. outside test entry.0) m.students
  pub zones : (s : ℕ) → zone_at n s ≡ zone_at m s
  pub seats : (i s : ℕ) → test i ≡ false → Contains (choices_of m i) s → seats_of n s ≡ seats_of m s
