-- Rows one after the other: what the next one reads as, and what is true of them together.
use Rattle.std.specs.Prelude.{ℕ, ◌+◌, ◌≤◌, ◌==◌, nat_eq, nat_le, List, [], ◌∷◌, ◌++◌, length, map, if◌then◌else◌, Result, Ok, Err}
use Rattle.std.specs.List.{IsDistinct, list_any}
use Rattle.sc_intake.specs.Fault.{◌>>=◌}
use Rattle.sc_intake.specs.declared.fault.Cause.{Cause}
use Rattle.sc_intake.specs.declared.fault.Cause.TheVariants.{TooLong, Fields, Twice}

-- what the record of this row reads as, under a header of so many fields: it has as many
abbrev pub row_at : {R : Type 0} → (ℕ → List (List ℕ) → Result R Cause) → ℕ → ℕ → List (List ℕ) → Result R Cause
row_at read width row fields = if length fields == width then read row fields else Err Fields

-- what the record of this row is, under a header of so many fields: there may be one row more, it has as many fields,
-- they read as a row, and no earlier row has its number
abbrev pub next_row_at : {R : Type 0} → ℕ → (R → ℕ) → (ℕ → List (List ℕ) → Result R Cause) → ℕ → ℕ → List R → List (List ℕ) → Result R Cause
next_row_at most number read width row earlier fields =
    if nat_le most (length earlier) then Err TooLong
    else row_at read width row fields
    >>= λ found. if list_any (nat_eq (number found)) (map number earlier) then Err Twice else Ok found

-- the next row where each record before it is a row: the header is record 1
abbrev pub next_row : {R : Type 0} → ℕ → (R → ℕ) → (ℕ → List (List ℕ) → Result R Cause) → ℕ → List R → List (List ℕ) → Result R Cause
next_row most number read width earlier = next_row_at most number read width (length earlier + 2) earlier

-- the rows with the next one, where there is one
abbrev pub added : {R : Type 0} → List R → Result R Cause → Result (List R) Cause
added earlier next = next >>= λ row. Ok (earlier ++ row ∷ [])

-- the rows of a file: their numbers are all different, and there are not too many
pub record AreRows {R : Type 0} (number : R → ℕ) (most : ℕ) (rows : List R) : Type 0 where
  pub differ : IsDistinct nat_eq (map number rows)
  pub few : length rows ≤ most
