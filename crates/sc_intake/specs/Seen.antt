-- What numbers the type `SeenNumbers` has. Only the crate's own functions and their proofs need this.
use Rattle.std.specs.Prelude.{◌≡◌, ℕ, nat_eq, List, map}
use Rattle.std.specs.List.{list_any}

-- these are the numbers of the rows, in any order
abbrev pub AreNumbers : {R : Type 0} → (R → ℕ) → List R → List ℕ → Type 0
AreNumbers number rows seen = (n : ℕ) → list_any (nat_eq n) seen ≡ list_any (nat_eq n) (map number rows)
