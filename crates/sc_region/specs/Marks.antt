-- Marks by position.
use Rattle.std.specs.Prelude.{◌<◌, ℕ, Bool, List, [], ◌∷◌, Contains, map, nat_eq, if◌then◌else◌}
use Rattle.std.specs.List.{list_any, range_with_len}
use Rattle.std.specs.List.Sorted.{IsStrictlyIncreasing}

-- those of a list who are marked, in order: each mark is that of the one at its position
abbrev pub marked : {X : Type 0} → List Bool → List X → List X
marked marks [] = []
marked [] (x ∷ xs) = []
marked (mark ∷ marks) (x ∷ xs) = if mark then x ∷ marked marks xs else marked marks xs

-- a mark for each of so many, where these positions are marked
abbrev pub marks_at : ℕ → List ℕ → List Bool
marks_at count positions = map (λ position. list_any (nat_eq position) positions) (range_with_len 0 count)

-- positions of some of so many, rising
pub record AreRisingBelow (count : ℕ) (positions : List ℕ) : Type 0 where
  pub rising : IsStrictlyIncreasing positions
  pub below : (position : ℕ) → Contains positions position → position < count
