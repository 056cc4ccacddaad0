-- A record written again as a line without quotes. Only the crate's own functions and their proofs need this.
use Rattle.std.specs.Prelude.{◌≡◌, ℕ, List, ◌∷◌, ◌++◌}
use Rattle.sc_intake.specs.Plain.{plain_records}

-- a text is longer by a line, which is a record of these fields, whatever comes after it
pub record AddsLine (old new : List ℕ) (fields : List (List ℕ)) : Type 0 where
  pub line : List ℕ
  pub added : new ≡ old ++ line
  pub reads : (rest : List ℕ) → plain_records (line ++ rest) ≡ fields ∷ plain_records rest
