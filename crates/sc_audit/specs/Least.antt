-- The least of some numbers.
use Rattle.std.specs.Prelude.{◌≡◌, ℕ, ◌<◌, ◌≤◌, nat_lt, List, Option, None, Some, IfSome, slice_get, if◌then◌else◌}

-- the lesser of two numbers, where there are two
abbrev pub lesser_of : Option ℕ → Option ℕ → Option ℕ
lesser_of None other = other
lesser_of (Some least) None = Some least
lesser_of (Some least) (Some other) = Some (if nat_lt other least then other else least)

-- the least of what the first k members give
pub record LeastOf (xs : List ℕ) (f : ℕ → Option ℕ) (k : ℕ) (least : Option ℕ) : Type 0 where
  pub reached : IfSome least (λ s. (x : ℕ) × (f x ≡ Some s))
  pub below : (j x s : ℕ) → j < k → slice_get xs j ≡ Some x → f x ≡ Some s → (n : ℕ) × (least ≡ Some n) × (n ≤ s)
