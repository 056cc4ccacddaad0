-- Segments of a set and of the rest, woven, are segmented.
use Rattle.std.proofs.Common.{◌≡◌, refl, ap, sym, subst, subst₂, ◌∙◌, ℕ, zero, suc, Bool, true, false, cond, not, List, [], ◌∷◌, ◌++◌, length, filter, take, drop, get_or, arith}
use Rattle.std.specs.List.{AllByRecursion}
use Rattle.std.proofs.Math.Seq.{take-nil}
use Rattle.std.proofs.lemmas.Bool.{cond-true, cond-false, not-true}
use Rattle.std.proofs.lemmas.List.Elements.{filter-append}
use Rattle.sc_papers.specs.Market.{Market, students_of}
use Rattle.sc_papers.specs.WellFormed.{WellFormed}
use Rattle.sc_papers.specs.Log.{IsValidAfter, IsSettled}
use Rattle.sc_papers.specs.Restriction.{restricted, cut, joined, entries_of, outside, AreApart, IsSegmented}
use Rattle.sc_papers.specs.declared.rejection.Rejection.{Rejection}
use Rattle.sc_papers.proofs.Apart.{settled-apart}
use Rattle.sc_papers.proofs.Cutting.{segments-settled}
use Rattle.sc_papers.proofs.Restriction.{restricted-restricts}
use Rattle.sc_papers.proofs.Subsets.{next-passes}
use Rattle.sc_weave.specs.Weaving.{woven}
use Rattle.sc_weave.proofs.Counts.{passing, restricted-cut, apart-cut, passing-within}

-- each entry's student passes
abbrev pub Passes : (ℕ → Bool) → List Rejection → Type 0
Passes test log = AllByRecursion (λ e. test e.student ≡ true) log

-- a log that is valid for some students has entries of these alone
valid-passes : (m : Market) (test : ℕ → Bool) (log rest : List Rejection) → IsValidAfter (restricted m test) log rest → Passes test rest
valid-passes m test log [] valid = tt
valid-passes m test log (e ∷ rest) valid =
    (next-passes (restricted-restricts m test) log e.student e.school valid.0.next, valid-passes m test (log ++ e ∷ []) rest valid.1)

passes-parts : (test : ℕ → Bool) (first second : List Rejection) → Passes test (first ++ second) → Passes test first × Passes test second
passes-parts test [] second all = (tt, all)
passes-parts test (e ∷ first) second all =
    let parts = passes-parts test first second all.1 in ((all.0, parts.0), parts.1)

-- and so have its segments
segments-pass : (test : ℕ → Bool) (segments : List (List Rejection)) → Passes test (joined segments) → AllByRecursion (Passes test) segments
segments-pass test [] all = tt
segments-pass test (segment ∷ segments) all =
    let parts = passes-parts test segment (joined segments) all in (parts.0, segments-pass test segments parts.1)

segmented-pass : (m : Market) (test : ℕ → Bool) (segments : List (List Rejection)) → IsSegmented (restricted m test) segments → AllByRecursion (Passes test) segments
segmented-pass m test segments segmented =
    segments-pass test segments (valid-passes m test [] (joined segments) (segments-settled (restricted m test) segments segmented).valid)

-- where each entry passes, all are kept, and where none does, none is
pub entries-all : (test : ℕ → Bool) (log : List Rejection) → Passes test log → entries_of test log ≡ log
entries-all test [] all = refl
entries-all test (e ∷ log) all = cond-true (test e.student) (e ∷ entries_of test log) (entries_of test log) all.0 ∙ ap (λ l. e ∷ l) (entries-all test log all.1)

pub entries-none : (test : ℕ → Bool) (log : List Rejection) → Passes (outside test) log → entries_of test log ≡ []
entries-none test [] all = refl
entries-none test (e ∷ log) all = cond-false (test e.student) (e ∷ entries_of test log) (entries_of test log) (not-true (test e.student) all.0) ∙ entries-none test log all.1

all-later : {X : Type 0} (P : X → Type 0) (xs : List X) → AllByRecursion P xs → AllByRecursion P (drop 1 xs)
all-later P [] all = tt
all-later P (x ∷ xs) all = all.1

-- the first segment of those who pass, and the first of the others
first-kept : (test : ℕ → Bool) (n : ℕ) (inside : List (List Rejection)) (later : List Rejection) → AllByRecursion (Passes test) inside → entries_of test later ≡ joined (take n (drop 1 inside)) → entries_of test (get_or inside 0 [] ++ later) ≡ joined (take (suc n) inside)
first-kept test n [] later all rest = rest ∙ ap joined (take-nil n)
first-kept test n (segment ∷ inside) later all rest =
    filter-append (λ e. test e.student) segment later ∙ (λ t. entries-all test segment all.0 t ++ rest t)

first-dropped : (test : ℕ → Bool) (rest : List (List Rejection)) (later : List Rejection) → AllByRecursion (Passes (outside test)) rest → entries_of test (get_or rest 0 [] ++ later) ≡ entries_of test later
first-dropped test [] later all = refl
first-dropped test (segment ∷ rest) later all =
    filter-append (λ e. test e.student) segment later ∙ ap (λ l. l ++ entries_of test later) (entries-none test segment all.0)

-- of the woven segments, the entries of those who pass are the segments of the inside
entries-woven : (students : List ℕ) (test : ℕ → Bool) (inside rest : List (List Rejection)) → AllByRecursion (Passes test) inside → AllByRecursion (Passes (outside test)) rest → entries_of test (joined (woven students test inside rest)) ≡ joined (take (length (filter test students)) inside)
entries-woven [] test inside rest kept dropped = refl
entries-woven (i ∷ students) test inside rest kept dropped =
    go (test i) (woven students test (drop 1 inside) rest) (woven students test inside (drop 1 rest)) (filter test students)
    (entries-woven students test (drop 1 inside) rest (all-later (Passes test) inside kept) dropped)
    (entries-woven students test inside (drop 1 rest) kept (all-later (Passes (outside test)) rest dropped))
  where
    go : (b : Bool) (first second : List (List Rejection)) (passed : List ℕ)
        → entries_of test (joined first) ≡ joined (take (length passed) (drop 1 inside))
        → entries_of test (joined second) ≡ joined (take (length passed) inside)
        → entries_of test (joined (cond b (get_or inside 0 [] ∷ first) (get_or rest 0 [] ∷ second))) ≡ joined (take (length (cond b (i ∷ passed) passed)) inside)
    go true first second passed in_first in_second = first-kept test (length passed) inside (joined first) kept in_first
    go false first second passed in_first in_second = first-dropped test rest (joined second) dropped ∙ in_second

-- to swap the parts and the test weaves the same
cond-not : {X : Type 0} (b : Bool) (x y : X) → cond b x y ≡ cond (not b) y x
cond-not true x y = refl
cond-not false x y = refl

pub woven-swapped : (students : List ℕ) (test : ℕ → Bool) (inside rest : List (List Rejection)) → woven students test inside rest ≡ woven students (outside test) rest inside
woven-swapped [] test inside rest = refl
woven-swapped (i ∷ students) test inside rest =
    cond-not (test i) (get_or inside 0 [] ∷ woven students test (drop 1 inside) rest) (get_or rest 0 [] ∷ woven students test inside (drop 1 rest))
    ∙ (λ t. cond (not (test i)) (get_or rest 0 [] ∷ woven-swapped students test inside (drop 1 rest) t) (get_or inside 0 [] ∷ woven-swapped students test (drop 1 inside) rest t))

-- the first of the woven segments are those of the first students
take-woven : (k : ℕ) (students : List ℕ) (test : ℕ → Bool) (inside rest : List (List Rejection)) → take k (woven students test inside rest) ≡ woven (take k students) test inside rest
take-woven zero students test inside rest = refl
take-woven (suc k) [] test inside rest = refl
take-woven (suc k) (i ∷ students) test inside rest =
    take-cond k (test i) (get_or inside 0 []) (get_or rest 0 []) (woven students test (drop 1 inside) rest) (woven students test inside (drop 1 rest))
    ∙ (λ t. cond (test i) (get_or inside 0 [] ∷ take-woven k students test (drop 1 inside) rest t) (get_or rest 0 [] ∷ take-woven k students test inside (drop 1 rest) t))
  where
    take-cond : {X : Type 0} (k : ℕ) (b : Bool) (x y : X) (xs ys : List X) → take (suc k) (cond b (x ∷ xs) (y ∷ ys)) ≡ cond b (x ∷ take k xs) (y ∷ take k ys)
    take-cond k true x y xs ys = refl
    take-cond k false x y xs ys = refl

pub length-woven : (students : List ℕ) (test : ℕ → Bool) (inside rest : List (List Rejection)) → length (woven students test inside rest) ≡ length students
length-woven [] test inside rest = refl
length-woven (i ∷ students) test inside rest =
    length-cond (test i) (get_or inside 0 []) (get_or rest 0 []) (woven students test (drop 1 inside) rest) (woven students test inside (drop 1 rest)) (length students)
    (length-woven students test (drop 1 inside) rest) (length-woven students test inside (drop 1 rest))
  where
    length-cond : {X : Type 0} (b : Bool) (x y : X) (xs ys : List X) (n : ℕ) → length xs ≡ n → length ys ≡ n → length (cond b (x ∷ xs) (y ∷ ys)) ≡ suc n
    length-cond true x y xs ys n first second = ap suc first
    length-cond false x y xs ys n first second = ap suc second

-- the entries of those of a set in the first k of the woven segments are settled for the first k students
woven-settled : (m : Market) (test : ℕ → Bool) (inside rest : List (List Rejection)) (k : ℕ) → IsSegmented (restricted m test) inside → IsSegmented (restricted m (outside test)) rest → IsSettled (restricted (cut m k) test) (entries_of test (joined (take k (woven (students_of m) test inside rest))))
woven-settled m test inside rest k first second =
    let count : ℕ = passing test k (students_of m) in
    let same : entries_of test (joined (take k (woven (students_of m) test inside rest))) ≡ joined (take count inside) =
    ap (λ segments. entries_of test (joined segments)) (take-woven k (students_of m) test inside rest)
    ∙ entries-woven (take k (students_of m)) test inside rest (segmented-pass m test inside first) (segmented-pass m (outside test) rest second) in
    subst₂ IsSettled (sym (restricted-cut m test k)) (sym same)
    (first.settled count (omega (arith, first.one_each, passing-within m test k)))

-- outside the outside
outside-twice : (test : ℕ → Bool) → outside (outside test) ≡ test
outside-twice test = λ t i. not-not (test i) t
  where
    not-not : (b : Bool) → not (not b) ≡ b
    not-not true = refl
    not-not false = refl

pub woven-segmented : (m : Market) (test : ℕ → Bool) (inside rest : List (List Rejection)) → WellFormed m → AreApart m test → IsSegmented (restricted m test) inside → IsSegmented (restricted m (outside test)) rest → IsSegmented m (woven (students_of m) test inside rest)
woven-segmented m test inside rest well apart first second = record {
  one_each = length-woven (students_of m) test inside rest;
  settled = λ k low. (settled-apart (cut m k) test (joined (take k (woven (students_of m) test inside rest))) (apart-cut m test k well apart)).1 (
    woven-settled m test inside rest k first second,
    subst (λ segments. IsSettled (restricted (cut m k) (outside test)) (entries_of (outside test) (joined (take k segments)))) (sym (woven-swapped (students_of m) test inside rest))
        (woven-settled m (outside test) rest inside k second (subst (λ other. IsSegmented (restricted m other) inside) (sym (outside-twice test)) first)),
  );
}
