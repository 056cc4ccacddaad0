-- Where a reader stands in a text that is cut into records. Only the crate's own functions and their proofs need this.
use Rattle.std.specs.Prelude.{◌≡◌, ℕ, Bool, List, [], ◌∷◌, MatchBool}

-- the fields of the record read last, the records after it, and whether a text with which the reader goes on is cut at each
-- line end, whatever quotes it has
pub record Cursor : Type 0 where
  pub current : List (List ℕ)
  pub left : List (List (List ℕ))
  pub by_lines : Bool

-- whether there is a record more, which is then the one read last
abbrev pub ReadsNext : Cursor → Cursor → Bool → Type 0
ReadsNext old new found = MatchBool found (old.left ≡ new.current ∷ new.left) (old.left ≡ [])
