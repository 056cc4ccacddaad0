-- What a filter keeps of a list.
use Rattle.std.proofs.Common.{◌≡◌, inl, inr, zero-add, sym, ap, subst, ◌∙◌, ℕ, ◌+◌, ◌≤◌, nat_eq, Bool, true, false, List, [], ◌∷◌, ◌++◌, length, take, cond, Some, Contains, filter, slice_get}
use Rattle.std.specs.List.{range_with_len, IsDistinct}
use Rattle.std.proofs.lemmas.Bool.{cases_Bool, false≢true}
use Rattle.std.proofs.lemmas.List.{append-nil, take_all}
use Rattle.std.proofs.lemmas.List.Elements.{All-contains, All-contains_itself, All-filter, All-from_recursion, filter-append, filter_more, filter_passes, recursion_from_All}
use Rattle.std.proofs.lemmas.Option.{get_or_from_slice_get, slice_get_within}
use Rattle.sc_papers.proofs.Counting.{contains-cons, contains-head, contains-tail}
use Rattle.sc_region.proofs.Rising.{range-more}

pub filter-kept : (p : ℕ → Bool) (xs : List ℕ) (i : ℕ) → Contains xs i → p i ≡ true → Contains (filter p xs) i
filter-kept p [] i among passes = among
filter-kept p (x ∷ xs) i among passes = elim (cases_Bool (p x)) [
  | inl kept ↦
      rw kept (elim (contains-cons x xs i among) [
        | inl same ↦ subst (Contains (x ∷ filter p xs)) same (contains-head x (filter p xs))
        | inr later ↦ contains-tail x (filter p xs) i (filter-kept p xs i later passes)
      ])
  | inr dropped ↦
      rw dropped (elim (contains-cons x xs i among) [
        | inl same ↦ absurd (false≢true (sym dropped ∙ ap p same ∙ passes))
        | inr later ↦ filter-kept p xs i later passes
      ])
]

pub filter-among : (p : ℕ → Bool) (xs : List ℕ) (i : ℕ) → Contains (filter p xs) i → Contains xs i × (p i ≡ true)
filter-among p xs i among = (
  All-contains (Contains xs) (filter p xs) i (All-filter p (Contains xs) xs (All-contains_itself xs)) among,
  All-contains (λ j. p j ≡ true) (filter p xs) i (filter_passes p xs) among,
)

pub filter-differ : (p : ℕ → Bool) (xs : List ℕ) → IsDistinct nat_eq xs → IsDistinct nat_eq (filter p xs)
unfolding IsDistinct
filter-differ p [] differ = differ
filter-differ p (x ∷ xs) differ = elim (cases_Bool (p x)) [
  | inl kept ↦
      let Other : ℕ → Type 0 = λ y. nat_eq x y ≡ false in
      rw kept (recursion_from_All Other (filter p xs) (All-filter p Other xs (All-from_recursion Other xs differ.0)), filter-differ p xs differ.1)
  | inr dropped ↦ rw dropped (filter-differ p xs differ.1)
]

-- a loop's step
filter-step : (p : ℕ → Bool) (xs : List ℕ) (at x : ℕ) → slice_get xs at ≡ Some x → filter p (take (at + 1) xs) ≡ filter p (take at xs) ++ cond (p x) (x ∷ []) []
filter-step p xs at x here =
    filter_more p xs at x (slice_get_within xs at x here)
    ∙ ap (λ y. filter p (take at xs) ++ cond (p y) (y ∷ []) []) (get_or_from_slice_get xs at x x here)

pub filter-keeps : (p : ℕ → Bool) (xs : List ℕ) (at x : ℕ) → slice_get xs at ≡ Some x → p x ≡ true → filter p (take (at + 1) xs) ≡ filter p (take at xs) ++ x ∷ []
filter-keeps p xs at x here passes = filter-step p xs at x here ∙ ap (λ b. filter p (take at xs) ++ cond b (x ∷ []) []) passes

pub filter-drops : (p : ℕ → Bool) (xs : List ℕ) (at x : ℕ) → slice_get xs at ≡ Some x → p x ≡ false → filter p (take (at + 1) xs) ≡ filter p (take at xs)
filter-drops p xs at x here fails =
    filter-step p xs at x here ∙ ap (λ b. filter p (take at xs) ++ cond b (x ∷ []) []) fails ∙ append-nil (filter p (take at xs))

-- and its end
pub filter-whole : (p : ℕ → Bool) (xs : List ℕ) (at : ℕ) → length xs ≤ at → filter p (take at xs) ≡ filter p xs
filter-whole p xs at past = ap (filter p) (take_all at xs past)

-- one number more of those below a count
pub filter-range : (p : ℕ → Bool) (n : ℕ) → filter p (range_with_len 0 (n + 1)) ≡ filter p (range_with_len 0 n) ++ cond (p n) (n ∷ []) []
filter-range p n = ap (filter p) (range-more 0 n ∙ ap (λ k. range_with_len 0 n ++ k ∷ []) (zero-add n)) ∙ filter-append p (range_with_len 0 n) (n ∷ [])

pub filter-range_keeps : (p : ℕ → Bool) (n : ℕ) → p n ≡ true → filter p (range_with_len 0 (n + 1)) ≡ filter p (range_with_len 0 n) ++ n ∷ []
filter-range_keeps p n passes = filter-range p n ∙ ap (λ b. filter p (range_with_len 0 n) ++ cond b (n ∷ []) []) passes

pub filter-range_drops : (p : ℕ → Bool) (n : ℕ) → p n ≡ false → filter p (range_with_len 0 (n + 1)) ≡ filter p (range_with_len 0 n)
filter-range_drops p n fails = filter-range p n ∙ ap (λ b. filter p (range_with_len 0 n) ++ cond b (n ∷ []) []) fails ∙ append-nil (filter p (range_with_len 0 n))
