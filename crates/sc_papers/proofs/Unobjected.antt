-- Lists to which nothing is objected.
use Rattle.std.proofs.Common.{◌≡◌, ℕ, ◌<◌, ◌≤◌, ◌==◌, nat_eq, Bool, true, false, not, List, [], ◌∷◌, ◌++◌, length, Option, None, Some, IfSome, refl, ap, arith}
use Rattle.std.specs.Prelude.{find, nat_lt}
use Rattle.std.specs.Option.{option_map}
use Rattle.std.specs.List.{list_any, AllPass, AllByRecursion, IsDistinct}
use Rattle.std.proofs.lemmas.Bool.Decides.{nat_tests}
use Rattle.std.proofs.lemmas.List.Elements.{All-cons, All-head, All-nil, All-tail}
use Rattle.std.proofs.lemmas.List.Folds.{list_any-append}
use Rattle.sc_papers.specs.Market.{Market, is_school, is_student}
use Rattle.sc_papers.specs.Verdict.{refuse_if, first_of, first_repeat, no_choices, too_long, twice_in, unknown_in, unknown_school, unknown_student}
use Rattle.sc_papers.specs.declared.amendment.Refusal.TheVariants.{EmptyList, ListTooLong, SchoolTwice, UnknownSchool}
use Rattle.sc_papers.specs.declared.limits.TheConstants.{LONGEST_LIST}

-- where none of the objections applies, there is no first one
pub none-first_of : {R : Type 0} (objections : List (Option R)) → AllByRecursion (λ o. o ≡ None) objections → first_of objections ≡ None
none-first_of [] none = refl
none-first_of (o ∷ rest) none = rw none.0 (none-first_of rest none.1)

pub none-refuse_if : {R : Type 0} (b : Bool) (r : R) → b ≡ false → refuse_if b r ≡ None
none-refuse_if b r fails = rw fails refl

-- to one who is in the papers
pub none-unknown_student : (m : Market) (i : ℕ) → is_student m i ≡ true → unknown_student m i ≡ None
none-unknown_student m i known = rw known refl

-- to choices that are some
pub none-no_choices : (choices : List ℕ) → 0 < length choices → no_choices choices ≡ None
none-no_choices choices some = none-refuse_if (length choices == 0) EmptyList (grind (arith, nat_tests))

-- to a short list
pub none-too_long : (xs : List ℕ) → length xs ≤ LONGEST_LIST → too_long xs ≡ None
none-too_long xs short = none-refuse_if (nat_lt LONGEST_LIST (length xs)) ListTooLong (grind (arith, nat_tests))

all_pass-find : (test : ℕ → Bool) (xs : List ℕ) → AllPass test xs → find (λ x. not (test x)) xs ≡ None
all_pass-find test [] pass = refl
all_pass-find test (x ∷ xs) pass =
    rw (All-head (λ y. test y ≡ true) x xs pass) (all_pass-find test xs (All-tail (λ y. test y ≡ true) x xs pass))

-- to one that names known schools
pub none-unknown_in : (m : Market) (xs : List ℕ) → AllPass (is_school m) xs → unknown_in m xs ≡ None
none-unknown_in m xs known = ap (option_map UnknownSchool) (all_pass-find (is_school m) xs known)

-- to a known school that comes alone, if there is one
pub none-unknown_school : (m : Market) (school : Option ℕ) → IfSome school (λ s. is_school m s ≡ true) → unknown_school m school ≡ None
none-unknown_school m None known = refl
none-unknown_school m (Some s) known = none-unknown_in m (s ∷ []) (All-cons (λ t. is_school m t ≡ true) s [] known (All-nil (λ t. is_school m t ≡ true)))

-- who equals none of `earlier` and not x equals none of both
apart-join : (earlier : List ℕ) (x : ℕ) (xs : List ℕ) → AllByRecursion (λ y. list_any (λ t. t == y) earlier ≡ false) xs → AllByRecursion (λ y. nat_eq x y ≡ false) xs
    → AllByRecursion (λ y. list_any (λ t. t == y) (earlier ++ x ∷ []) ≡ false) xs
apart-join earlier x [] before apart = tt
apart-join earlier x (y ∷ ys) before apart =
    (rw (list_any-append (λ t. t == y) earlier (x ∷ []), before.0, apart.0) refl, apart-join earlier x ys before.1 apart.1)

distinct-first_repeat : (earlier xs : List ℕ) → AllByRecursion (λ y. list_any (λ t. t == y) earlier ≡ false) xs → IsDistinct nat_eq xs → first_repeat earlier xs ≡ None
unfolding IsDistinct
distinct-first_repeat earlier [] apart differ = refl
distinct-first_repeat earlier (x ∷ xs) apart differ =
    rw apart.0 (distinct-first_repeat (earlier ++ x ∷ []) xs (apart-join earlier x xs apart.1 differ.0) differ.1)

nothing-before : (xs : List ℕ) → AllByRecursion (λ y. list_any (λ t. t == y) [] ≡ false) xs
nothing-before [] = tt
nothing-before (x ∷ xs) = (refl, nothing-before xs)

-- to one that names each school once
pub none-twice_in : (xs : List ℕ) → IsDistinct nat_eq xs → twice_in xs ≡ None
none-twice_in xs differ = ap (option_map SchoolTwice) (distinct-first_repeat [] xs (nothing-before xs) differ)
