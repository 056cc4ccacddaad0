-- Where the file of the schools has no fault, no school is known but its rows.
use Rattle.std.proofs.Common.{◌≡◌, refl, sym, ap, ◌∙◌, ℕ, ◌+◌, Bool, true, false, ◌||◌, nat_eq, List, [], ◌∷◌, ◌++◌, map, Ok, Err, arith}
use Rattle.std.specs.Prelude.{Result, Option, Some, if◌then◌else◌, option_map}
use Rattle.std.specs.Result.{result_ok}
use Rattle.std.specs.List.{list_any}
use Rattle.std.proofs.lemmas.Bool.Decides.{nat_tests}
use Rattle.std.proofs.lemmas.List.{map-append}
use Rattle.std.proofs.lemmas.List.Folds.{list_any-append}
use Rattle.sc_papers.specs.declared.limits.TheConstants.{MOST_SCHOOLS}
use Rattle.sc_intake.specs.Checking.{judged_from, known_below, known_from, known_schools, named_school, schools_judged, unjudged, with_known, with_row}
use Rattle.sc_intake.specs.Fault.{◌>>=◌, fault_at}
use Rattle.sc_intake.specs.Field.{as_school, as_seats, as_zone, number_of}
use Rattle.sc_intake.specs.File.{after_header, records_in, text_at}
use Rattle.sc_intake.specs.Rows.{added, next_row_at}
use Rattle.sc_intake.specs.Schools.{is_school_header, school_number, school_of}
use Rattle.sc_intake.specs.declared.fault.Cause.{Cause}
use Rattle.sc_intake.specs.declared.fault.IntakeFault.{IntakeFault}
use Rattle.sc_intake.specs.declared.fault.Source.TheVariants.{Schools}
use Rattle.sc_intake.specs.declared.schools.SchoolRow.{SchoolRow}
use Rattle.sc_checks.specs.Readings.{unless_faulty}
use Rattle.sc_checks.proofs.Judging.{first-stays-after}

-- a test that was passed over was not met
not-met : {A : Type 0} (b : Bool) (cause : Cause) (next : Result A Cause) (found : A) → (if b then Err cause else next) ≡ Ok found → next ≡ Ok found
not-met true cause next found is = absurd (cc is)
not-met false cause next found is = is

met : {A : Type 0} (b : Bool) (cause : Cause) (next : Result A Cause) (found : A) → (if b then next else Err cause) ≡ Ok found → next ≡ Ok found
met true cause next found is = is
met false cause next found is = absurd (cc is)

before-test : (reading : Result SchoolRow Cause) (test : SchoolRow → Bool) (cause : Cause) (found : SchoolRow)
    → (reading >>= λ row. if test row then Err cause else Ok row) ≡ Ok found → reading ≡ Ok found
before-test (Err other) test cause found is = absurd (cc is)
before-test (Ok row) test cause found is = not-met (test row) cause (Ok row) found is

-- a school that is known by its number alone
abbrev known_by : ℕ → ℕ → SchoolRow
known_by row n = record { row = row; number = n; zone = 0; seats = 0 }

number-by : (row : ℕ) (number zone seats : Result ℕ Cause) (found : SchoolRow)
    → (number >>= λ n. zone >>= λ z. seats >>= λ s. Ok (record { row = row; number = n; zone = z; seats = s })) ≡ Ok found → number ≡ Ok found.number
number-by row (Err cause) zone seats found is = absurd (cc is)
number-by row (Ok n) (Err cause) seats found is = absurd (cc is)
number-by row (Ok n) (Ok z) (Err cause) found is = absurd (cc is)
number-by row (Ok n) (Ok z) (Ok s) found is =
    let same : record { row = row; number = n; zone = z; seats = s } ≡ found = cc is in
    ap (λ (school : SchoolRow). Ok school.number) same

fields-by : (row : ℕ) (a b c : Result ℕ Cause) (found : SchoolRow)
    → (a >>= λ x. b >>= λ y. c >>= λ z. as_school x >>= λ n. as_zone y >>= λ zone. as_seats z >>= λ seats. Ok (record { row = row; number = n; zone = zone; seats = seats })) ≡ Ok found
    → (a >>= as_school) ≡ Ok found.number
fields-by row (Err cause) b c found is = absurd (cc is)
fields-by row (Ok x) (Err cause) c found is = absurd (cc is)
fields-by row (Ok x) (Ok y) (Err cause) found is = absurd (cc is)
fields-by row (Ok x) (Ok y) (Ok z) found is = number-by row (as_school x) (as_zone y) (as_seats z) found is

-- a good row names its school
name-of : (width row place : ℕ) (good : List SchoolRow) (fields : List (List ℕ)) (found : SchoolRow)
    → next_row_at MOST_SCHOOLS school_number school_of width row good fields ≡ Ok found → named_school place fields ≡ Some (known_by place found.number)
name-of width row place good fields found is =
    ap (λ (number : Result ℕ Cause). option_map (known_by place) (result_ok number))
    (fields-by row (number_of (text_at fields 0)) (number_of (text_at fields 1)) (number_of (text_at fields 2)) found
    (met _ _ (school_of row fields) found (before-test _ _ _ found (not-met _ _ _ found is))))

or-true : (b : Bool) → (b || true) ≡ true
or-true true = refl
or-true false = refl

same-number : (n : ℕ) → nat_eq n n ≡ true
same-number n = grind (arith, nat_tests)

-- a number that is there stays with a row more, and the row's own is there
still-there : (n : ℕ) (rows : List SchoolRow) (row : SchoolRow) → list_any (nat_eq n) (map school_number rows) ≡ true
    → list_any (nat_eq n) (map school_number (rows ++ row ∷ [])) ≡ true
still-there n rows row is =
    ap (list_any (nat_eq n)) (map-append school_number rows (row ∷ [])) ∙ list_any-append (nat_eq n) (map school_number rows) (row.number ∷ [])
    ∙ ap (λ (b : Bool). b || list_any (nat_eq n) (row.number ∷ [])) is

now-there : (rows : List SchoolRow) (row : SchoolRow) → list_any (nat_eq row.number) (map school_number (rows ++ row ∷ [])) ≡ true
now-there rows row =
    ap (list_any (nat_eq row.number)) (map-append school_number rows (row ∷ [])) ∙ list_any-append (nat_eq row.number) (map school_number rows) (row.number ∷ [])
    ∙ ap (λ (b : Bool). list_any (nat_eq row.number) (map school_number rows) || (b || false)) (same-number row.number)
    ∙ or-true (list_any (nat_eq row.number) (map school_number rows))

known-already : (known : List SchoolRow) (school : SchoolRow) → list_any (nat_eq school.number) (map school_number known) ≡ true → with_known known (Some school) ≡ known
known-already known school there = rw (there, or-true) refl

abbrev read_school : ℕ → ℕ → List SchoolRow → List (List ℕ) → Result SchoolRow Cause
read_school width = next_row_at MOST_SCHOOLS school_number school_of width

-- a fault of a row excludes that a file reads as rows
no-rows : (width row : ℕ) (good : List SchoolRow) (cause : Cause) (rest : List (List (List ℕ))) (rows : List SchoolRow)
    → unless_faulty (judged_from (row + 1) Schools (read_school width) (with_row Schools row (unjudged good) (Err cause)) rest) ≡ Ok rows → ⊥
no-rows width row good cause rest rows read =
    let fault : unless_faulty (judged_from (row + 1) Schools (read_school width) (with_row Schools row (unjudged good) (Err cause)) rest) ≡ Err (fault_at Schools row cause) =
    first-stays-after (row + 1) Schools (read_school width) (with_row Schools row (unjudged good) (Err cause)) rest (fault_at Schools row cause) refl in
    cc (sym read ∙ fault)

-- a number that was read is among those of all rows
stays-there : (width row : ℕ) (good : List SchoolRow) (records : List (List (List ℕ))) (rows : List SchoolRow) (n : ℕ)
    → list_any (nat_eq n) (map school_number good) ≡ true → unless_faulty (judged_from row Schools (read_school width) (unjudged good) records) ≡ Ok rows
    → list_any (nat_eq n) (map school_number rows) ≡ true
unfolding judged_from
stays-there width row good [] rows n there read = let same : good ≡ rows = cc read in rw (← same) there
stays-there width row good (fields ∷ rest) rows n there read =
    by (read_school width row good fields) (λ better is. stays-there width (row + 1) better rest rows n is) read
  where
    by : (next : Result SchoolRow Cause)
        → ((better : List SchoolRow) → list_any (nat_eq n) (map school_number better) ≡ true
        → unless_faulty (judged_from (row + 1) Schools (read_school width) (unjudged better) rest) ≡ Ok rows → list_any (nat_eq n) (map school_number rows) ≡ true)
        → unless_faulty (judged_from (row + 1) Schools (read_school width) (with_row Schools row (unjudged good) (added good next)) rest) ≡ Ok rows
        → list_any (nat_eq n) (map school_number rows) ≡ true
    by (Ok found) more read = more (good ++ found ∷ []) (still-there n good found there) read
    by (Err cause) more read = absurd (no-rows width row good cause rest rows read)

-- where each record is a good row, none names another school
none-named : (width row place : ℕ) (good : List SchoolRow) (records : List (List (List ℕ))) (rows : List SchoolRow)
    → unless_faulty (judged_from row Schools (read_school width) (unjudged good) records) ≡ Ok rows → known_from place rows records ≡ rows
unfolding judged_from known_from
none-named width row place good [] rows read = refl
none-named width row place good (fields ∷ rest) rows read =
    by (read_school width row good fields) refl (λ better. none-named width (row + 1) (place + 1) better rest rows) read
  where
    by : (next : Result SchoolRow Cause) → read_school width row good fields ≡ next
        → ((better : List SchoolRow) → unless_faulty (judged_from (row + 1) Schools (read_school width) (unjudged better) rest) ≡ Ok rows → known_from (place + 1) rows rest ≡ rows)
        → unless_faulty (judged_from (row + 1) Schools (read_school width) (with_row Schools row (unjudged good) (added good next)) rest) ≡ Ok rows
        → known_from (place + 1) (with_known rows (named_school place fields)) rest ≡ rows
    by (Ok found) is more read =
        ap (λ (school : Option SchoolRow). known_from (place + 1) (with_known rows school) rest) (name-of width row place good fields found is)
        ∙ ap (λ (known : List SchoolRow). known_from (place + 1) known rest)
        (known-already rows (known_by place found.number) (stays-there width (row + 1) (good ++ found ∷ []) rest rows found.number (now-there good found) read))
        ∙ more (good ++ found ∷ []) read
    by (Err cause) is more read = absurd (no-rows width row good cause rest rows read)

pub none-known : (text : List ℕ) (rows : List SchoolRow) → (schools_judged text >>= unless_faulty) ≡ Ok rows → known_schools text rows ≡ rows
none-known text rows = by (records_in Schools text >>= after_header Schools is_school_header)
  where
    by : (below : Result (ℕ × List (List (List ℕ))) IntakeFault)
        → ((below >>= λ b. Ok (judged_from 2 Schools (read_school b.0) (unjudged []) b.1)) >>= unless_faulty) ≡ Ok rows → known_below rows below ≡ rows
    by (Ok b) read = none-named b.0 2 2 [] b.1 rows read
    by (Err fault) read = refl
