-- Keys gathered by school.
use Rattle.std.specs.Prelude.{◌≡◌, ℕ, ◌<◌, Bool, nat_eq, List, [], ◌∷◌, ◌++◌, Some, get_or, length, map, position, Vec, if◌then◌else◌}
use Rattle.std.specs.declared.alloc.Global.{Global}
use Rattle.sc_papers.specs.Key.{key_of}
use Rattle.sc_papers.specs.Market.{Market, schools_of}
use Rattle.sc_papers.specs.Matching.{Matching, has}
use Rattle.sc_papers.specs.declared.key.Key.{Key}
use Rattle.sc_notices.specs.Admissions.{keys_passing, waits}

-- the keys that lists hold
abbrev pub keys_in : List (Vec Key Global) → List (List Key)
keys_in lists = map (λ list. list.items) lists

-- for each school, by its position, the keys of those of the students who pass its test
pub record AreKeyLists (m : Market) (passes : ℕ → ℕ → Bool) (students : List ℕ) (lists : List (List Key)) : Type 0 where
  pub one_each : length lists ≡ length (schools_of m)
  pub keys : (s at : ℕ) → position (nat_eq s) (schools_of m) ≡ Some at → get_or lists at [] ≡ keys_passing m (passes s) students s

-- there is a list for each school, and a student stands in the papers at the position
pub record TakesKeys (m : Market) (student : ℕ) (lists : List (List Key)) : Type 0 where
  pub within : student < length m.students
  pub one_each : length lists ≡ length (schools_of m)

-- i's key at each school that passes comes last in the list of that school, and nothing else changes
pub record AddsKeys (m : Market) (i : ℕ) (passes : ℕ → Bool) (old new : List (List Key)) : Type 0 where
  pub one_each : length new ≡ length old
  pub keys : (s at : ℕ) → position (nat_eq s) (schools_of m) ≡ Some at → get_or new at [] ≡ get_or old at [] ++ (if passes s then key_of m i s ∷ [] else [])

-- the keys of those of the students who have each school, and of those who wait for it
pub record AreCandidates (m : Market) (a : Matching) (students : List ℕ) (admitted waiting : List (List Key)) : Type 0 where
  pub holders : AreKeyLists m (has a) students admitted
  pub waiters : AreKeyLists m (waits m a) students waiting
