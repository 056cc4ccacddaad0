-- Numbers that rise.
use Rattle.std.proofs.Common.{◌≡◌, ◌<◌, ◌≤◌, ℕ, nat_eq, false, List, [], ◌∷◌, ◌++◌, None, Result, Ok, Err, length, get_or, position, inl, inr, refl, ap, arith}
use Rattle.std.specs.Prelude.{MatchResult}
use Rattle.std.specs.List.{IsDistinct, position_or_len}
use Rattle.std.specs.List.Sorted.{IsBinarySearchResult}
use Rattle.std.specs.Ordering.{nat_cmp}
use Rattle.std.specs.Result.{result_ok}
use Rattle.std.proofs.lemmas.Bool.{cases_lt}
use Rattle.std.proofs.lemmas.Bool.Decides.{nat_tests}
use Rattle.std.proofs.lemmas.List.{get_or_append_left, get_or_push, length_push}
use Rattle.std.proofs.lemmas.List.Sorted.{searched}
use Rattle.std.proofs.lemmas.List.Sums.{position_or_len_is}
use Rattle.std.proofs.lemmas.Map.Keys.{IsDistinct-from_apart}
use Rattle.sc_papers.specs.Numbers.{Rise}

-- a number that may follow them is none of them
pub position-past : (xs : List ℕ) (y : ℕ) → Rise (xs ++ y ∷ []) → position (nat_eq y) xs ≡ None
position-past xs y rise =
    let none : position_or_len (nat_eq y) xs ≡ length xs =
    position_or_len_is (nat_eq y) xs (length xs) 0 (omega arith) (λ k low.
    let long = length_push xs y in
    let less = rise k (length xs) 0 low (omega arith) in
    let own = get_or_append_left xs (y ∷ []) 0 k low in
    let end = get_or_push xs y 0 (length xs) refl in
    let apart : get_or xs k 0 < y = omega (arith, less, own, end) in
    grind (arith, nat_tests)) (λ within. absurd (omega arith)) in
    grind (arith, nat_tests)

-- what a binary search says is where a number stands
pub position-searched : (xs : List ℕ) (x : ℕ) (r : Result ℕ ℕ) → IsBinarySearchResult (λ y. nat_cmp y x) xs r → Rise xs → result_ok r ≡ position (nat_eq x) xs
position-searched xs x r found rise = by r (searched xs x r found not_falling)
  where
    not_falling : (i j : ℕ) → i ≤ j → j < length xs → get_or xs i 0 ≤ get_or xs j 0
    not_falling i j order within = elim (cases_lt i j) [
      | inl before ↦ omega (arith, rise i j 0 before within)
      | inr after ↦ let same : i ≡ j = omega arith in omega (arith, ap (λ k. get_or xs k 0) same)
    ]

    by : (r : Result ℕ ℕ) → MatchResult r (λ i. (i < length xs) × (get_or xs i 0 ≡ x)) (λ i. (i ≤ length xs) × ((k : ℕ) → k < i → get_or xs k 0 < x) × ((k : ℕ) → i ≤ k → k < length xs → x < get_or xs k 0))
        → result_ok r ≡ position (nat_eq x) xs
    by (Ok i) (low, here) =
        let at : position_or_len (nat_eq x) xs ≡ i =
        position_or_len_is (nat_eq x) xs i 0 (omega arith) (λ k before. let less = rise k i 0 before low in grind (arith, nat_tests)) (λ within. grind (arith, nat_tests)) in
        grind (arith, nat_tests)
    by (Err i) (most, below, above) =
        let none : position_or_len (nat_eq x) xs ≡ length xs =
        position_or_len_is (nat_eq x) xs (length xs) 0 (omega arith) (λ k low. apart k low) (λ within. absurd (omega arith)) in
        grind (arith, nat_tests)
      where
        apart : (k : ℕ) → k < length xs → nat_eq x (get_or xs k 0) ≡ false
        apart k low = elim (cases_lt k i) [
          | inl before ↦ let less = below k before in grind (arith, nat_tests)
          | inr from ↦ let more = above k from low in grind (arith, nat_tests)
        ]

-- no two of them are one
pub IsDistinct-rise : (xs : List ℕ) → Rise xs → IsDistinct nat_eq xs
IsDistinct-rise xs rise = IsDistinct-from_apart nat_eq xs (λ i j d before within. let less = rise i j d before within in grind (arith, nat_tests))
