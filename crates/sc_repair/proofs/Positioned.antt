-- The positions of the marked, before a point and from one on.
use Rattle.std.proofs.Common.{◌≡◌, suc-add, ◌↔◌, inl, inr, refl, ap, sym, ◌∙◌, ℕ, suc, ◌+◌, ◌-◌, ◌<◌, ◌≤◌, Bool, true, false, List, [], ◌∷◌, drop, get_or, length, Contains, IsTrue, arith}
use Rattle.std.specs.List.{range_with_len}
use Rattle.std.specs.List.Sorted.{IsStrictlyIncreasing}
use Rattle.std.proofs.lemmas.Bool.{cases_lt}
use Rattle.std.proofs.lemmas.List.{get_or-drop, get_or_default, length-drop}
use Rattle.std.proofs.lemmas.List.Kept.{IsStrictlyIncreasing-filter}
use Rattle.sc_papers.proofs.Counting.{contains-cons, contains-head, contains-tail}
use Rattle.sc_region.proofs.Filtering.{filter-among, filter-kept}
use Rattle.sc_region.proofs.MarkedPositions.{below-marked}
use Rattle.sc_region.proofs.Rising.{range-from, range-rising, range-there}
use Rattle.sc_repair.proofs.Rising.{rising-less}
use Rattle.sc_repair.specs.Locality.{marked_from, marked_within}

-- rising numbers behind the first
rising-tail : (x : ℕ) (xs : List ℕ) → IsStrictlyIncreasing (x ∷ xs) → IsStrictlyIncreasing xs
rising-tail x xs rising k low = omega (arith, rising (suc k) (omega (arith, low)), ap (λ n. get_or (x ∷ xs) n 0) (suc-add k 1))

rising-head : (x : ℕ) (xs : List ℕ) (p : ℕ) → IsStrictlyIncreasing (x ∷ xs) → Contains xs p → x < p
rising-head x xs p rising (k, low, at) =
    omega (arith, rising-less (x ∷ xs) 0 (suc k) rising (omega arith) (omega (arith, low)), get_or_default xs k 0 p low, at)

-- rising numbers are the same where the same ones are among them
pub rising-same : (xs ys : List ℕ) → IsStrictlyIncreasing xs → IsStrictlyIncreasing ys → ((p : ℕ) → Contains xs p → Contains ys p) → ((p : ℕ) → Contains ys p → Contains xs p) → xs ≡ ys
rising-same [] [] up down there back = refl
rising-same [] (y ∷ ys) up down there back = let (k, low, at) = back y (contains-head y ys) in absurd (omega (arith, low))
rising-same (x ∷ xs) [] up down there back = let (k, low, at) = there x (contains-head x xs) in absurd (omega (arith, low))
rising-same (x ∷ xs) (y ∷ ys) up down there back =
    let first : x ≡ y =
    elim (contains-cons y ys x (there x (contains-head x xs))) [
      | inl same ↦ sym same
      | inr later ↦ elim (contains-cons x xs y (back y (contains-head y ys))) [
        | inl same ↦ same
        | inr after ↦ absurd (omega (arith, rising-head y ys x down later, rising-head x xs y up after))
      ]
    ] in
    let rest : xs ≡ ys = rising-same xs ys (rising-tail x xs up) (rising-tail y ys down)
    (λ p among. elim (contains-cons y ys p (there p (contains-tail x xs p among))) [
      | inl same ↦ absurd (omega (arith, rising-head x xs p up among, first, same))
      | inr later ↦ later
    ])
    (λ p among. elim (contains-cons x xs p (back p (contains-tail y ys p among))) [
      | inl same ↦ absurd (omega (arith, rising-head y ys p down among, first, same))
      | inr later ↦ later
    ]) in
    λ t. first t ∷ rest t

-- the last of rising numbers rise
rising-drop : (n : ℕ) (xs : List ℕ) → IsStrictlyIncreasing xs → IsStrictlyIncreasing (drop n xs)
rising-drop n xs rising k low = grind (arith, low, get_or-drop n xs k 0, get_or-drop n xs (k + 1) 0, rising (n + k), length-drop n xs)

pub within-rising : (marks : List Bool) (from count : ℕ) → IsStrictlyIncreasing (marked_within marks from count)
within-rising marks from count = IsStrictlyIncreasing-filter (λ p. get_or marks p false) (range_with_len from count) (range-rising from count)

-- what is among them
pub within-from : (marks : List Bool) (from count p : ℕ) → Contains (marked_within marks from count) p → (from ≤ p) × (p < from + count) × (get_or marks p false ≡ true)
within-from marks from count p among =
    let (there, its) = filter-among (λ at. get_or marks at false) (range_with_len from count) p among in
    let (low, high) = range-from from count p there in
    (low, high, its)

pub within-there : (marks : List Bool) (from count p : ℕ) → from ≤ p → p < from + count → get_or marks p false ≡ true → Contains (marked_within marks from count) p
within-there marks from count p low high its = filter-kept (λ at. get_or marks at false) (range_with_len from count) p (range-there from count p low high) its

-- the rising positions of all that are marked, from a position on
pub last-marked : (marks : List Bool) (positions : List ℕ) (n from : ℕ) → IsStrictlyIncreasing positions → ((p : ℕ) → (Contains positions p ↔ IsTrue (get_or marks p false)))
    → n ≤ length positions → ((k : ℕ) → k < n → get_or positions k 0 < from) → ((k : ℕ) → n ≤ k → k < length positions → from ≤ get_or positions k 0)
    → drop n positions ≡ marked_from marks from
last-marked marks positions n from rising told fits before rest =
    rising-same (drop n positions) (marked_from marks from) (rising-drop n positions rising) (within-rising marks from (length marks - from))
    (λ p (k, low, at).
    let long = length-drop n positions in
    let within : n + k < length positions = omega (arith, low, long) in
    let is : get_or positions (n + k) p ≡ p = sym (get_or-drop n positions k p) ∙ at in
    let its = (told p).0 (n + k, within, is) in
    let low : from ≤ p = omega (arith, rest (n + k) (omega arith) within, get_or_default positions (n + k) 0 p within, is) in
    within-there marks from (length marks - from) p low (omega (arith, low, below-marked marks p its)) its)
    (λ p among.
    let (low, high, its) = within-from marks from (length marks - from) p among in
    let (k, within, is) = (told p).1 its in
    elim (cases_lt k n) [
      | inl few ↦ absurd (omega (arith, low, before k few, get_or_default positions k 0 p within, is))
      | inr past ↦
          let far : n + (k - n) ≡ k = omega (arith, past) in
          (k - n, omega (arith, past, within, length-drop n positions), get_or-drop n positions (k - n) p ∙ ap (λ at. get_or positions at p) far ∙ is)
    ])
