-- How the type `SchoolGroups` keeps its groups: each position has a parent, at or before it, and a group
-- is a tree of parents, which goes by its root. Contracts see the list of the roots alone.
use Rattle.std.specs.Prelude.{◌≡◌, ℕ, zero, suc, ◌≤◌, List, length, map, slice_index}
use Rattle.std.specs.List.{range_with_len}

-- where so many steps from a position to its parent lead
unfoldable pub climbed : List ℕ → ℕ → ℕ → ℕ
climbed parents zero at = at
climbed parents (suc steps) at = climbed parents steps (slice_index parents at)

-- the root of a position, which that many steps reach, since each parent stands before its child
unfoldable pub root_of : List ℕ → ℕ → ℕ
root_of parents at = climbed parents at at

-- the roots of all positions
unfoldable pub roots_of : List ℕ → List ℕ
roots_of parents = map (root_of parents) (range_with_len 0 (length parents))

-- each parent stands at its child's position or before it
abbrev pub AreParents : List ℕ → Type 0
AreParents parents = (k : ℕ) → slice_index parents k ≤ k

-- other parents, with the same roots
pub record KeepsRoots (old new : List ℕ) : Type 0 where
  pub size : length new ≡ length old
  pub low : AreParents new
  pub roots : (k : ℕ) → root_of new k ≡ root_of old k
