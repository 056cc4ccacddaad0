-- A file is read as judging it finds it, up to the first fault.
use Rattle.std.proofs.Common.{◌≡◌, refl, sym, ap, ◌∙◌, ℕ, ◌+◌, Bool, List, [], ◌∷◌, ◌++◌, length, Ok, Err, arith}
use Rattle.std.specs.Prelude.{Result}
use Rattle.std.proofs.lemmas.List.{length_push}
use Rattle.sc_intake.specs.Checking.{judged_from, judged_in, unjudged, with_row, Judged}
use Rattle.sc_intake.specs.Fault.{◌>>=◌, fault_at}
use Rattle.sc_intake.specs.File.{after_header, in_row, records_in, rows_after, rows_in}
use Rattle.sc_intake.specs.Rows.{added}
use Rattle.sc_intake.specs.declared.fault.Cause.{Cause}
use Rattle.sc_intake.specs.declared.fault.IntakeFault.{IntakeFault}
use Rattle.sc_intake.specs.declared.fault.Source.{Source}
use Rattle.sc_checks.specs.Readings.{unless_faults, unless_faulty}

-- the first fault stays the first with a row more
pub first-stays : {A : Type 0} (source : Source) (row : ℕ) (so_far : Judged A) (next : Result A Cause) (fault : IntakeFault)
    → unless_faulty so_far ≡ Err fault → unless_faulty (with_row source row so_far next) ≡ Err fault
first-stays {A = A} source row so_far (Ok better) fault first = by so_far.faults first
  where
    by : (faults : List IntakeFault) → unless_faults so_far.good faults ≡ Err fault → unless_faults better faults ≡ Err fault
    by [] e = absurd (cc e)
    by (found ∷ rest) e = e
first-stays {A = A} source row so_far (Err cause) fault first = by so_far.faults first
  where
    by : (faults : List IntakeFault) → unless_faults so_far.good faults ≡ Err fault
        → unless_faults so_far.good (faults ++ fault_at source row cause ∷ []) ≡ Err fault
    by [] e = absurd (cc e)
    by (found ∷ rest) e = e

-- and with all the rows that follow
pub first-stays-after : {R : Type 0} (row : ℕ) (source : Source) (read : ℕ → List R → List (List ℕ) → Result R Cause) (so_far : Judged (List R)) (records : List (List (List ℕ))) (fault : IntakeFault)
    → unless_faulty so_far ≡ Err fault → unless_faulty (judged_from row source read so_far records) ≡ Err fault
unfolding judged_from
first-stays-after row source read so_far [] fault first = first
first-stays-after row source read so_far (fields ∷ rest) fault first =
    first-stays-after (row + 1) source read (with_row source row so_far (added so_far.good (read row so_far.good fields))) rest fault
    (first-stays source row so_far (added so_far.good (read row so_far.good fields)) fault first)

-- rows are read as they are judged
rows-judged : {R : Type 0} (source : Source) (read : ℕ → List R → List (List ℕ) → Result R Cause) (earlier : List R) (records : List (List (List ℕ)))
    → rows_after 2 source (λ rows. read (length rows + 2) rows) earlier records ≡ unless_faulty (judged_from (length earlier + 2) source read (unjudged earlier) records)
unfolding rows_after judged_from
rows-judged source read earlier [] = refl
rows-judged {R = R} source read earlier (fields ∷ rest) = by (read (length earlier + 2) earlier fields) (λ rows. rows-judged source read rows rest)
  where
    by : (next : Result R Cause)
        → ((rows : List R) → rows_after 2 source (λ found. read (length found + 2) found) rows rest ≡ unless_faulty (judged_from (length rows + 2) source read (unjudged rows) rest))
        → (in_row source (length earlier + 2) next >>= λ row. rows_after 2 source (λ found. read (length found + 2) found) (earlier ++ row ∷ []) rest)
        ≡ unless_faulty (judged_from (length earlier + 2 + 1) source read (with_row source (length earlier + 2) (unjudged earlier) (added earlier next)) rest)
    by (Ok row) more =
        let place : length (earlier ++ row ∷ []) + 2 ≡ length earlier + 2 + 1 = omega (arith, length_push earlier row) in
        more (earlier ++ row ∷ []) ∙ ap (λ (n : ℕ). unless_faulty (judged_from n source read (unjudged (earlier ++ row ∷ [])) rest)) place
    by (Err cause) more =
        sym (first-stays-after (length earlier + 2 + 1) source read (with_row source (length earlier + 2) (unjudged earlier) (Err cause)) rest
        (fault_at source (length earlier + 2) cause) refl)

-- and so is a file
pub file-judged : {R : Type 0} (source : Source) (is_header : List (List ℕ) → Bool) (read : ℕ → ℕ → List R → List (List ℕ) → Result R Cause) (text : List ℕ)
    → rows_in source is_header (λ width rows. read width (length rows + 2) rows) text ≡ (judged_in source is_header read text >>= unless_faulty)
file-judged {R = R} source is_header read text = by (records_in source text >>= after_header source is_header)
  where
    by : (below : Result (ℕ × List (List (List ℕ))) IntakeFault)
        → (below >>= λ b. rows_after 2 source (λ rows. read b.0 (length rows + 2) rows) [] b.1)
        ≡ ((below >>= λ b. Ok (judged_from 2 source (read b.0) (unjudged []) b.1)) >>= unless_faulty)
    by (Ok b) = rows-judged source (read b.0) [] b.1
    by (Err fault) = refl
