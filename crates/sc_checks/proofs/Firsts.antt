-- The first column whose field has the cause of its row, one column after the other.
use Rattle.std.proofs.Common.{◌≡◌, ℕ, ◌+◌, true, false, List, [], ◌∷◌, refl, Some, None}
use Rattle.sc_intake.specs.File.{text_at}
use Rattle.sc_intake.specs.declared.fault.Cause.{Cause}
use Rattle.sc_checks.specs.Columns.{cause_in, first_with, is_cause}
use Rattle.sc_checks.specs.declared.columns.Column.{Column}

pub first_with-here : (cause : Cause) (fields : List (List ℕ)) (index : ℕ) (column : Column) (rest : List Column) → is_cause cause (cause_in column (text_at fields index)) ≡ true
    → first_with cause fields index (column ∷ rest) ≡ Some (record { column = column; value = text_at fields index })
unfolding first_with
first_with-here cause fields index column rest is = rw is refl

pub first_with-more : (cause : Cause) (fields : List (List ℕ)) (index : ℕ) (column : Column) (rest : List Column) → is_cause cause (cause_in column (text_at fields index)) ≡ false
    → first_with cause fields index (column ∷ rest) ≡ first_with cause fields (index + 1) rest
unfolding first_with
first_with-more cause fields index column rest other = rw other refl

pub first_with-none : (cause : Cause) (fields : List (List ℕ)) (index : ℕ) → first_with cause fields index [] ≡ None
unfolding first_with
first_with-none cause fields index = refl
