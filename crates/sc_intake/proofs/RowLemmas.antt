-- One row more, in a reading and in the code.
use Rattle.std.proofs.Common.{◌≡◌, ℕ, ◌+◌, ◌≤◌, false, nat_eq, List, [], ◌∷◌, ◌++◌, length, map, inl, inr, refl, ap, ◌∙◌, Ok, Err, arith}
use Rattle.std.specs.Prelude.{Result}
use Rattle.std.specs.List.{IsDistinct, list_any}
use Rattle.std.proofs.lemmas.Cmp.{nat_eq_equiv}
use Rattle.std.proofs.lemmas.List.{length_push, map-append}
use Rattle.std.proofs.lemmas.Map.Keys.{IsDistinct-push}
use Rattle.sc_intake.specs.Fault.{◌>>=◌, IsFault, fault_at, no_memory}
use Rattle.sc_intake.specs.File.{in_row, rows_after}
use Rattle.sc_intake.specs.Rows.{added, AreRows}
use Rattle.sc_intake.specs.declared.fault.Cause.{Cause}
use Rattle.sc_intake.specs.declared.fault.Cause.TheVariants.{OutOfMemory}
use Rattle.sc_intake.specs.declared.fault.IntakeFault.{IntakeFault}
use Rattle.sc_intake.specs.declared.fault.Source.{Source}

-- no rows
pub AreRows-none : {R : Type 0} (number : R → ℕ) (most : ℕ) → AreRows number most []
unfolding IsDistinct
AreRows-none number most = record { differ = tt; few = omega arith }

-- a row with a new number, where there is room
pub AreRows-push : {R : Type 0} (number : R → ℕ) (most : ℕ) (rows : List R) (row : R) → AreRows number most rows
    → list_any (nat_eq (number row)) (map number rows) ≡ false → length rows + 1 ≤ most → AreRows number most (rows ++ row ∷ [])
AreRows-push number most rows row are new room = record {
  differ = rw (map-append number rows (row ∷ [])) (IsDistinct-push nat_eq_equiv (map number rows) (number row) are.differ new);
  few = rw (length_push rows row) room;
}

rows_after-more : {R : Type 0} (first : ℕ) (source : Source) (read : List R → List (List ℕ) → Result R Cause) (earlier : List R) (fields : List (List ℕ)) (rest : List (List (List ℕ))) (rows : List R)
    → added earlier (read earlier fields) ≡ Ok rows → rows_after first source read earlier (fields ∷ rest) ≡ rows_after first source read rows rest
unfolding rows_after
rows_after-more {R = R} first source read earlier fields rest rows e = by (read earlier fields) e
  where
    by : (r : Result R Cause) → added earlier r ≡ Ok rows
        → (in_row source (length earlier + first) r >>= λ row. rows_after first source read (earlier ++ row ∷ []) rest) ≡ rows_after first source read rows rest
    by (Ok x) e = let same : earlier ++ x ∷ [] ≡ rows = cc in ap (λ (rs : List R). rows_after first source read rs rest) same
    by (Err cause) e = cc e

rows_after-bad : {R : Type 0} (first : ℕ) (source : Source) (read : List R → List (List ℕ) → Result R Cause) (earlier : List R) (fields : List (List ℕ)) (rest : List (List (List ℕ))) (cause : Cause)
    → added earlier (read earlier fields) ≡ Err cause → rows_after first source read earlier (fields ∷ rest) ≡ Err (fault_at source (length earlier + first) cause)
unfolding rows_after
rows_after-bad {R = R} first source read earlier fields rest cause e = by (read earlier fields) e
  where
    by : (r : Result R Cause) → added earlier r ≡ Err cause
        → (in_row source (length earlier + first) r >>= λ row. rows_after first source read (earlier ++ row ∷ []) rest) ≡ Err (fault_at source (length earlier + first) cause)
    by (Ok x) e = cc e
    by (Err other) e = let same : other ≡ cause = cc in rw same refl

-- the reading goes on after a row
pub row-step : {R : Type 0} (first : ℕ) (source : Source) (read : List R → List (List ℕ) → Result R Cause) (reading : Result (List R) IntakeFault) (earlier rows : List R) (left rest : List (List (List ℕ))) (fields : List (List ℕ))
    → reading ≡ rows_after first source read earlier left → left ≡ fields ∷ rest → added earlier (read earlier fields) ≡ Ok rows
    → reading ≡ rows_after first source read rows rest
row-step first source read reading earlier rows left rest fields so_far next add =
    so_far ∙ ap (rows_after first source read earlier) next ∙ rows_after-more first source read earlier fields rest rows add

-- it ends at a fault of a row
pub row-fault : {R : Type 0} (first : ℕ) (source : Source) (read : List R → List (List ℕ) → Result R Cause) (reading : Result (List R) IntakeFault) (earlier : List R) (left rest : List (List (List ℕ))) (fields : List (List ℕ)) (cause : Cause) (fault : IntakeFault)
    → reading ≡ rows_after first source read earlier left → left ≡ fields ∷ rest → IsFault OutOfMemory (added earlier (read earlier fields)) cause
    → fault ≡ fault_at source (length earlier + first) cause
    → IsFault (no_memory source) reading fault
row-fault first source read reading earlier left rest fields cause fault so_far next bad at = elim bad [
  | inl is ↦ inl (rw at (so_far ∙ ap (rows_after first source read earlier) next ∙ rows_after-bad first source read earlier fields rest cause is))
  | inr none ↦ inr (at ∙ rw none refl)
]

-- it ends with the records
pub row-end : {R : Type 0} (first : ℕ) (source : Source) (read : List R → List (List ℕ) → Result R Cause) (reading : Result (List R) IntakeFault) (earlier : List R) (left : List (List (List ℕ)))
    → reading ≡ rows_after first source read earlier left → left ≡ [] → reading ≡ Ok earlier
unfolding rows_after
row-end first source read reading earlier left so_far end = so_far ∙ ap (rows_after first source read earlier) end
