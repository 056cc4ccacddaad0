-- An input of at most 64 MiB has no more records than bytes, but for one.
use Rattle.std.proofs.Common.{◌≡◌, ℕ, suc, zero, ◌+◌, ◌≤◌, Bool, true, false, nat_lt, List, [], ◌∷◌, length, Option, Some, None, Ok, Err, Result, cond, refl, ap, arith, ltb-false}
use Rattle.csv.specs.Machine.{Read, next_record}
use Rattle.csv.specs.Reading.{default_config, is_bom, records, records_from, records_next, strip_bom}
use Rattle.csv.specs.declared.parser.Config.{Config}
use Rattle.csv.specs.declared.parser.State.{State}
use Rattle.csv.specs.declared.parser.State.TheVariants as st
use Rattle.sc_intake.specs.Fault.{fault_at}
use Rattle.sc_intake.specs.File.{after_header, is_marked, records_in}
use Rattle.sc_intake.specs.declared.fault.Cause.TheVariants.{Header, TooLong}
use Rattle.sc_intake.specs.declared.fault.IntakeFault.{IntakeFault}
use Rattle.sc_intake.specs.declared.fault.Source.{Source}

length-records_next : (more : State → List ℕ → List (List (List ℕ))) (n : ℕ) → ((s : State) (xs : List ℕ) → length (more s xs) ≤ n)
    → (read : Option Read) → length (records_next more read) ≤ n + 1
length-records_next more n bounded None = omega arith
length-records_next more n bounded (Some p) = omega (arith, bounded p.1 p.2)

length-records_from : (cfg : Config) (n : ℕ) (s : State) (xs : List ℕ) → length (records_from cfg n s xs) ≤ n
unfolding records_from
length-records_from cfg zero s xs = omega arith
length-records_from cfg (suc n) s xs = omega (arith, length-records_next (records_from cfg n) n (length-records_from cfg n) (next_record cfg s [] [] xs))

length-unmarked : (b : Bool) (x y z : ℕ) (rest : List ℕ) → length (cond b rest (x ∷ y ∷ z ∷ rest)) ≤ length (x ∷ y ∷ z ∷ rest)
length-unmarked true x y z rest = omega arith
length-unmarked false x y z rest = omega arith

length-strip_bom : (text : List ℕ) → length (strip_bom text) ≤ length text
unfolding strip_bom
length-strip_bom [] = omega arith
length-strip_bom (x ∷ []) = omega arith
length-strip_bom (x ∷ y ∷ []) = omega arith
length-strip_bom (x ∷ y ∷ z ∷ rest) = length-unmarked (is_bom x y z) x y z rest

length-records : (text : List ℕ) → length (records default_config (strip_bom text)) ≤ length text + 1
length-records text = omega (arith, length-strip_bom text, length-records_from default_config (length (strip_bom text) + 1) st.StartRecord (strip_bom text))

unmarked-by : (source : Source) (text : List ℕ) (left : List (List (List ℕ))) (b : Bool)
    → cond b (Err (fault_at source 1 Header)) (Ok (records default_config (strip_bom text))) ≡ Ok left
    → left ≡ records default_config (strip_bom text)
unmarked-by source text left true is = absurd (cc is)
unmarked-by source text left false is = cc is

bounded-by : (source : Source) (text : List ℕ) (left : List (List (List ℕ))) (b : Bool) → nat_lt 67108864 (length text) ≡ b
    → cond b (Err (fault_at source 0 TooLong)) (cond (is_marked (strip_bom text)) (Err (fault_at source 1 Header)) (Ok (records default_config (strip_bom text)))) ≡ Ok left
    → length left ≤ 67108865
bounded-by source text left true is read = absurd (cc read)
bounded-by source text left false is read =
    let same = unmarked-by source text left (is_marked (strip_bom text)) read in
    rw same (omega (arith, length-records text, ltb-false 67108864 (length text) is))

-- the records of an input are bounded
pub length-records_in : (source : Source) (text : List ℕ) (left : List (List (List ℕ))) → records_in source text ≡ Ok left → length left ≤ 67108865
unfolding records_in
length-records_in source text left read = bounded-by source text left (nat_lt 67108864 (length text)) refl read

below-by : (source : Source) (b : Bool) (fields : List (List ℕ)) (rest left : List (List (List ℕ))) (width most : ℕ) → length (fields ∷ rest) ≤ most
    → cond {A = Result (ℕ × List (List (List ℕ))) IntakeFault} b (Ok (length fields, rest)) (Err (fault_at source 1 Header)) ≡ Ok (width, left) → length left ≤ most
below-by source true fields rest left width most bounded is =
    let same : (length fields, rest) ≡ (width, left) = cc in
    let left_is : rest ≡ left = ap (λ (p : ℕ × List (List (List ℕ))). p.1) same in
    rw (← left_is) (omega (arith, bounded))
below-by source false fields rest left width most bounded is = absurd (cc is)

-- there are no more records below a header than with it
pub length-below_header : (source : Source) (is_header : List (List ℕ) → Bool) (records : List (List (List ℕ))) (width : ℕ) (left : List (List (List ℕ))) (most : ℕ)
    → length records ≤ most → after_header source is_header records ≡ Ok (width, left) → length left ≤ most
unfolding after_header
length-below_header source is_header [] width left most bounded is = absurd (cc is)
length-below_header source is_header (fields ∷ rest) width left most bounded is = below-by source (is_header fields) fields rest left width most bounded is
