-- The first open choice of a list.
use Rattle.std.proofs.Common.{◌≡◌, ◌≤◌, length, inl, inr, refl, ap, sym, ◌∙◌, ℕ, zero, suc, ◌<◌, nat_eq, Bool, true, false, List, [], ◌∷◌, get_or, Some, None, Contains, find, slice_get, arith}
use Rattle.std.specs.List.{IsDistinct}
use Rattle.std.proofs.lemmas.Bool.{cases_Bool, cases_lt, cases_order, false≢true, cond-true, cond-false, eq-eqb}
use Rattle.std.proofs.lemmas.Option.{none-some, same_Some, slice_get_within, slice_get-get_or, get_or_from_slice_get}
use Rattle.std.proofs.lemmas.Map.Keys.{apart_from_distinct}
use Rattle.sc_papers.specs.Matching.{StandsBefore}

-- s is the first of the list that passes
pub record IsFirst (p : ℕ → Bool) (xs : List ℕ) (s : ℕ) : Type 0 where
  pub place : ℕ
  pub stands : slice_get xs place ≡ Some s
  pub passes : p s ≡ true
  pub earlier : (j t : ℕ) → j < place → slice_get xs j ≡ Some t → p t ≡ false

-- what is found is the first that passes
pub first-found : (p : ℕ → Bool) (xs : List ℕ) (s : ℕ) → find p xs ≡ Some s → IsFirst p xs s
first-found p [] s found = absurd (none-some s found)
first-found p (x ∷ xs) s found =
    elim (cases_Bool (p x)) [
      | inl passes ↦
          let same : x ≡ s = same_Some x s (sym (cond-true (p x) (Some x) (find p xs) passes) ∙ found) in
          record { place = 0; stands = ap Some same; passes = ap p (sym same) ∙ passes; earlier = λ j t low here. absurd (omega (arith, low)) }
      | inr fails ↦
          let rest : IsFirst p xs s = first-found p xs s (sym (cond-false (p x) (Some x) (find p xs) fails) ∙ found) in
          record {
            place = suc rest.place;
            stands = rest.stands;
            passes = rest.passes;
            earlier = later_places p x xs s fails rest;
          }
    ]
  where
    later_places : (p : ℕ → Bool) (x : ℕ) (xs : List ℕ) (s : ℕ) → p x ≡ false → (rest : IsFirst p xs s) → (j t : ℕ) → j < suc rest.place → slice_get (x ∷ xs) j ≡ Some t → p t ≡ false
    later_places p x xs s fails rest zero t low here = ap p (sym (same_Some x t here)) ∙ fails
    later_places p x xs s fails rest (suc j) t low here = rest.earlier j t (omega (arith, low)) here

-- where none is found, each fails
pub none-found : (p : ℕ → Bool) (xs : List ℕ) → find p xs ≡ None → (k t : ℕ) → slice_get xs k ≡ Some t → p t ≡ false
none-found p [] none k t here = absurd (none-some t here)
none-found p (x ∷ xs) none k t here =
    elim (cases_Bool (p x)) [
      | inl passes ↦ absurd (none-some x (sym none ∙ cond-true (p x) (Some x) (find p xs) passes))
      | inr fails ↦ at_place p x xs fails (none-found p xs (sym (cond-false (p x) (Some x) (find p xs) fails) ∙ none)) k t here
    ]
  where
    at_place : (p : ℕ → Bool) (x : ℕ) (xs : List ℕ) → p x ≡ false → ((k t : ℕ) → slice_get xs k ≡ Some t → p t ≡ false) → (k t : ℕ) → slice_get (x ∷ xs) k ≡ Some t → p t ≡ false
    at_place p x xs fails later zero t here = ap p (sym (same_Some x t here)) ∙ fails
    at_place p x xs fails later (suc k) t here = later k t here

-- a list contains what stands at a place, and the other way round
pub contains-at : (xs : List ℕ) (k t : ℕ) → slice_get xs k ≡ Some t → Contains xs t
contains-at xs k t here = (k, slice_get_within xs k t here, get_or_from_slice_get xs k t t here)

pub place-of : (xs : List ℕ) (t : ℕ) → Contains xs t → (k : ℕ) × (slice_get xs k ≡ Some t)
place-of xs t (k, low, at) = (k, slice_get-get_or xs k t low ∙ ap Some at)

-- the same member of a list with no repeats stands at one place
pub one-place : (xs : List ℕ) (j k t : ℕ) → IsDistinct nat_eq xs → slice_get xs j ≡ Some t → slice_get xs k ≡ Some t → j ≡ k
one-place xs j k t distinct first second =
    elim (cases_order j k) [
      | inl same ↦ same
      | inr (inl below) ↦ absurd (apart xs j k t distinct below first second)
      | inr (inr above) ↦ absurd (apart xs k j t distinct above second first)
    ]
  where
    apart : (xs : List ℕ) (j k t : ℕ) → IsDistinct nat_eq xs → j < k → slice_get xs j ≡ Some t → slice_get xs k ≡ Some t → ⊥
    apart xs j k t distinct below first second =
        let same : get_or xs j t ≡ get_or xs k t = get_or_from_slice_get xs j t t first ∙ sym (get_or_from_slice_get xs k t t second) in
        false≢true (sym (apart_from_distinct nat_eq xs j k t distinct below (slice_get_within xs k t second)) ∙ eq-eqb (get_or xs j t) (get_or xs k t) same)

-- what stands before the first that passes fails
pub fails-before : (p : ℕ → Bool) (xs : List ℕ) (s t : ℕ) → IsDistinct nat_eq xs → find p xs ≡ Some t → StandsBefore xs s t → p s ≡ false
fails-before p xs s t distinct found (j, k, below, at_j, at_k) =
    let first : IsFirst p xs t = first-found p xs t found in
    first.earlier j s (omega (arith, below, one-place xs k first.place t distinct at_k first.stands)) at_j

-- another that passes stands after the first that does
pub stands-after : (p : ℕ → Bool) (xs : List ℕ) (s t : ℕ) → find p xs ≡ Some s → Contains xs t → p t ≡ true → (t ≡ s → ⊥) → StandsBefore xs s t
stands-after p xs s t found among passes apart =
    let first : IsFirst p xs s = first-found p xs s found in
    let place : (k : ℕ) × (slice_get xs k ≡ Some t) = place-of xs t among in
    elim (cases_order place.0 first.place) [
      | inl same ↦ absurd (apart (same_Some t s (sym place.1 ∙ ap (slice_get xs) same ∙ first.stands)))
      | inr (inl below) ↦ absurd (false≢true (sym (first.earlier place.0 t below place.1) ∙ passes))
      | inr (inr above) ↦ (first.place, place.0, above, first.stands, place.1)
    ]

-- the first that passes is in the list
pub found-among : (p : ℕ → Bool) (xs : List ℕ) (s : ℕ) → find p xs ≡ Some s → Contains xs s
found-among p xs s found = let first : IsFirst p xs s = first-found p xs s found in contains-at xs first.place s first.stands

-- what passes, where each before it fails, is found
pub found-is : (p : ℕ → Bool) (xs : List ℕ) (k s : ℕ) → slice_get xs k ≡ Some s → p s ≡ true → ((j t : ℕ) → j < k → slice_get xs j ≡ Some t → p t ≡ false) → find p xs ≡ Some s
found-is p [] k s here passes earlier = absurd (none-some s here)
found-is p (x ∷ xs) zero s here passes earlier =
    let same : x ≡ s = same_Some x s here in
    cond-true (p x) (Some x) (find p xs) (ap p same ∙ passes) ∙ ap Some same
found-is p (x ∷ xs) (suc k) s here passes earlier =
    cond-false (p x) (Some x) (find p xs) (earlier 0 x (omega arith) refl)
    ∙ found-is p xs k s here passes (λ j t low there. earlier (suc j) t (omega (arith, low)) there)

-- where each fails, nothing is found
pub found-none : (p : ℕ → Bool) (xs : List ℕ) → ((j t : ℕ) → slice_get xs j ≡ Some t → p t ≡ false) → find p xs ≡ None
found-none p [] all = refl
found-none p (x ∷ xs) all = cond-false (p x) (Some x) (find p xs) (all 0 x refl) ∙ found-none p xs (λ j t there. all (suc j) t there)

-- where no place is left, the list is no longer
pub places-end : (xs : List ℕ) (k : ℕ) → slice_get xs k ≡ None → length xs ≤ k
places-end xs k past =
    elim (cases_lt k (length xs)) [
      | inl low ↦ absurd (none-some (get_or xs k 0) (sym past ∙ slice_get-get_or xs k 0 low))
      | inr over ↦ over
    ]
