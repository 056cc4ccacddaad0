-- Lists of rising numbers.
use Rattle.std.proofs.Common.{◌≡◌, nat_eq, ◌↔◌, refl, sym, ap, ◌∙◌, ℕ, ◌+◌, ◌-◌, ◌<◌, ◌≤◌, List, [], ◌∷◌, ◌++◌, length, get_or, Result, Ok, Err, IsTrue, Contains, arith}
use Rattle.std.specs.Prelude.{MatchResult, is_ok}
use Rattle.std.specs.Ordering.{nat_cmp}
use Rattle.std.specs.List.Sorted.{IsBinarySearchResult, IsPermutation, IsSortedByKey, IsStrictlyIncreasing}
use Rattle.std.specs.List.{IsDistinct, range_with_len}
use Rattle.std.proofs.lemmas.Bool.Decides.{nat_tests}
use Rattle.std.proofs.lemmas.Bool.{false≢true}
use Rattle.std.proofs.lemmas.List.{get_or_default, map-id}
use Rattle.std.proofs.lemmas.List.FromFn.{get_or-range_with_len, length-range_with_len, map-range_with_len_more}
use Rattle.std.proofs.lemmas.List.Sorted.{IsNonDecreasingBy-from_sort, searched}
use Rattle.std.proofs.lemmas.Map.Keys.{IsDistinct-IsPermutation, IsStrictlyIncreasing-from_distinct, non_decreasing_from_sorted, sorted_from_strictly_increasing}

-- what a binary search finds in them is among them, and what it doesn't find is not
pub search-contains : (xs : List ℕ) (x : ℕ) (r : Result ℕ ℕ) → IsBinarySearchResult (λ y. nat_cmp y x) xs r → IsStrictlyIncreasing xs → (IsTrue (is_ok r) ↔ Contains xs x)
search-contains xs x r found rising =
    by r (searched xs x r found (λ i j order within. non_decreasing_from_sorted xs (sorted_from_strictly_increasing xs rising) i j 0 order within))
  where
    by : (r : Result ℕ ℕ) → MatchResult r (λ i. (i < length xs) × (get_or xs i 0 ≡ x)) (λ i. (i ≤ length xs) × ((k : ℕ) → k < i → get_or xs k 0 < x) × ((k : ℕ) → i ≤ k → k < length xs → x < get_or xs k 0))
        → (IsTrue (is_ok r) ↔ Contains xs x)
    by (Ok i) (low, here) = (λ found. (i, low, get_or_default xs i x 0 low ∙ here), λ among. refl)
    by (Err i) none = (λ fails. absurd (false≢true fails), λ (k, low, here). absurd (apart k low (sym (get_or_default xs k x 0 low) ∙ here)))
      where
        apart : (k : ℕ) → k < length xs → get_or xs k 0 ≡ x → ⊥
        apart k low here = grind (arith, none.1 k, none.2 k, low, here)

turned : (x y : ℕ) → nat_eq x y ≡ nat_eq y x
turned x y = grind (arith, nat_tests)

-- different numbers rise once they are sorted
pub sorted-rising : (xs ys : List ℕ) → IsPermutation xs ys → IsDistinct nat_eq xs → IsSortedByKey (λ x. x) nat_cmp ys → IsStrictlyIncreasing ys
sorted-rising xs ys moved differ sorted =
    IsStrictlyIncreasing-from_distinct ys (IsNonDecreasingBy-from_sort (λ x. x) ys sorted) (IsDistinct-IsPermutation nat_eq turned xs ys moved differ)

-- the numbers of a range rise, and one more comes last
pub range-rising : (from count : ℕ) → IsStrictlyIncreasing (range_with_len from count)
range-rising from count k low =
    let long = length-range_with_len from count in
    omega (arith, get_or-range_with_len from count k 0 (omega (arith, low, long)), get_or-range_with_len from count (k + 1) 0 (omega (arith, low, long)))

pub range-more : (from count : ℕ) → range_with_len from (count + 1) ≡ range_with_len from count ++ (from + count) ∷ []
range-more from count =
    sym (map-id (range_with_len from (count + 1))) ∙ map-range_with_len_more (λ k. k) from count (from + count) refl
    ∙ ap (λ ps. ps ++ (from + count) ∷ []) (map-id (range_with_len from count))

-- what is among them
pub range-from : (from count p : ℕ) → Contains (range_with_len from count) p → (from ≤ p) × (p < from + count)
range-from from count p (k, low, at) =
    let long = length-range_with_len from count in
    let is = get_or-range_with_len from count k p (omega (arith, low, long)) in
    (omega (arith, is, at), omega (arith, is, at, low, long))

pub range-there : (from count p : ℕ) → from ≤ p → p < from + count → Contains (range_with_len from count) p
range-there from count p low high =
    let long = length-range_with_len from count in
    let within : p - from < count = omega (arith, low, high) in
    (p - from, omega (arith, within, long), get_or-range_with_len from count (p - from) p within ∙ omega (arith, low))
