-- What follows where no objection to an amendment applies.
use Rattle.std.proofs.Common.{◌≡◌, ℕ, ◌≤◌, ◌==◌, nat_eq, Bool, true, false, not, List, [], ◌∷◌, ◌++◌, length, Option, Some, None, refl, arith, inl, inr}
use Rattle.std.specs.Prelude.{find, ◌||◌, nat_lt}
use Rattle.std.specs.Option.{option_map, IfSome}
use Rattle.std.specs.List.{list_any, AllPass, AllByRecursion, IsDistinct}
use Rattle.std.proofs.lemmas.Bool.{cases_Bool}
use Rattle.std.proofs.lemmas.Bool.Decides.{nat_tests}
use Rattle.std.proofs.lemmas.List.Elements.{All-cons, All-head, All-nil}
use Rattle.std.proofs.lemmas.List.Folds.{list_any-append}
use Rattle.sc_papers.specs.Market.{Market, is_school}
use Rattle.sc_papers.specs.Verdict.{refuse_if, first_of, first_repeat, too_long, twice_in, unknown_in, unknown_school}
use Rattle.sc_papers.specs.declared.amendment.Refusal.TheVariants.{ListTooLong, SchoolTwice, UnknownSchool}
use Rattle.sc_papers.specs.declared.limits.TheConstants.{LONGEST_LIST}

-- where no objection is the first that applies, none applies
pub first_of-none : {R : Type 0} (objections : List (Option R)) → first_of objections ≡ None → AllByRecursion (λ o. o ≡ None) objections
first_of-none [] none = tt
first_of-none (None ∷ rest) none = (refl, first_of-none rest none)
first_of-none (Some r ∷ rest) none = cc

pub refuse_if-none : {R : Type 0} (b : Bool) (r : R) → refuse_if b r ≡ None → b ≡ false
refuse_if-none false r none = refl
refuse_if-none true r none = cc

pub option_map-none : {A B : Type 0} (f : A → B) (o : Option A) → option_map f o ≡ None → o ≡ None
option_map-none f None none = refl
option_map-none f (Some x) none = cc

-- where no element fails a test, all pass it
pub find_not-none : (test : ℕ → Bool) (xs : List ℕ) → find (λ x. not (test x)) xs ≡ None → AllPass test xs
find_not-none test [] none = All-nil (λ y. test y ≡ true)
find_not-none test (x ∷ xs) none =
    elim (cases_Bool (test x)) [
      | inl holds ↦ All-cons (λ y. test y ≡ true) x xs holds (find_not-none test xs (rw holds at none))
      | inr fails ↦ let some : Some x ≡ None = rw fails at none in cc
    ]

-- a disjunction that is false has false parts
or-false : (x y : Bool) → (x || (y || false)) ≡ false → (x ≡ false) × (y ≡ false)
or-false false false e = (refl, refl)
or-false false true e = cc
or-false true y e = cc

-- who equals none of `earlier` and x equals none of `earlier`, and not x
apart-split : (earlier : List ℕ) (x : ℕ) (xs : List ℕ) → AllByRecursion (λ y. list_any (λ t. t == y) (earlier ++ x ∷ []) ≡ false) xs
    → AllByRecursion (λ y. list_any (λ t. t == y) earlier ≡ false) xs × AllByRecursion (λ y. nat_eq x y ≡ false) xs
apart-split earlier x [] apart = (tt, tt)
apart-split earlier x (y ∷ ys) apart =
    let both = or-false (list_any (λ t. t == y) earlier) (x == y) (rw (list_any-append (λ t. t == y) earlier (x ∷ [])) at apart.0) in
    let rest = apart-split earlier x ys apart.1 in
    ((both.0, rest.0), (both.1, rest.1))

-- where none of xs equals an earlier one, they equal none of `earlier`, and differ
first_repeat-none : (earlier xs : List ℕ) → first_repeat earlier xs ≡ None
    → AllByRecursion (λ y. list_any (λ t. t == y) earlier ≡ false) xs × IsDistinct nat_eq xs
unfolding IsDistinct
first_repeat-none earlier [] none = (tt, tt)
first_repeat-none earlier (x ∷ xs) none =
    elim (cases_Bool (list_any (λ t. t == x) earlier)) [
      | inl met ↦ let some : Some x ≡ None = rw met at none in cc
      | inr new ↦
          let rest = first_repeat-none (earlier ++ x ∷ []) xs (rw new at none) in
          let parts = apart-split earlier x xs rest.0 in
          ((new, parts.0), (parts.1, rest.1))
    ]

-- a list to which nothing is objected for naming a school twice names each once
pub twice_in-none : (xs : List ℕ) → twice_in xs ≡ None → IsDistinct nat_eq xs
twice_in-none xs none = (first_repeat-none [] xs (option_map-none SchoolTwice (first_repeat [] xs) none)).1

-- one to which nothing is objected for naming an unknown school names known ones
pub unknown_in-none : (m : Market) (xs : List ℕ) → unknown_in m xs ≡ None → AllPass (is_school m) xs
unknown_in-none m xs none = find_not-none (is_school m) xs (option_map-none UnknownSchool (find (λ s. not (is_school m s)) xs) none)

-- and so is a single school, if there is one
pub unknown_school-none : (m : Market) (school : Option ℕ) → unknown_school m school ≡ None → IfSome school (λ s. is_school m s ≡ true)
unknown_school-none m None none = tt
unknown_school-none m (Some s) none = All-head (λ t. is_school m t ≡ true) s [] (unknown_in-none m (s ∷ []) none)

-- one to which nothing is objected for its length is short
pub too_long-none : (xs : List ℕ) → too_long xs ≡ None → length xs ≤ LONGEST_LIST
too_long-none xs none = let short = refuse_if-none (nat_lt LONGEST_LIST (length xs)) ListTooLong none in grind (arith, nat_tests)
