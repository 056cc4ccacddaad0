-- Rising positions.
use Rattle.std.proofs.Common.{◌≡◌, ℕ, ◌+◌, ◌<◌, ◌≤◌, List, length, get_or, Ok, Err, arith}
use Rattle.std.specs.List.Sorted.{IsBinarySearchResult, IsStrictlyIncreasing}
use Rattle.std.specs.Ordering.{nat_cmp}
use Rattle.std.proofs.lemmas.List.Sorted.{searched}
use Rattle.std.proofs.lemmas.Map.Keys.{non_decreasing_from_sorted, sorted_from_strictly_increasing}

-- of rising positions a later one is greater
pub rising-less : (xs : List ℕ) (j k : ℕ) → IsStrictlyIncreasing xs → j < k → k < length xs → get_or xs j 0 < get_or xs k 0
rising-less xs j k rising earlier low =
    omega (arith, rising j (omega (arith, earlier, low)), non_decreasing_from_sorted xs (sorted_from_strictly_increasing xs rising) (j + 1) k 0 (omega (arith, earlier)) low)

-- what a binary search finds in them, and what it does not find
pub rising-most : (xs : List ℕ) → IsStrictlyIncreasing xs → (i j : ℕ) → i ≤ j → j < length xs → get_or xs i 0 ≤ get_or xs j 0
rising-most xs rising i j order within = non_decreasing_from_sorted xs (sorted_from_strictly_increasing xs rising) i j 0 order within

pub search-finds : (xs : List ℕ) (x i : ℕ) → IsStrictlyIncreasing xs → IsBinarySearchResult (λ y. nat_cmp y x) xs (Ok i) → (i < length xs) × (get_or xs i 0 ≡ x)
search-finds xs x i rising found = searched xs x (Ok i) found (rising-most xs rising)

pub search-parts : (xs : List ℕ) (x i : ℕ) → IsStrictlyIncreasing xs → IsBinarySearchResult (λ y. nat_cmp y x) xs (Err i) → (i ≤ length xs) × ((k : ℕ) → k < i → get_or xs k 0 < x) × ((k : ℕ) → i ≤ k → k < length xs → x < get_or xs k 0)
search-parts xs x i rising lost = searched xs x (Err i) lost (rising-most xs rising)
