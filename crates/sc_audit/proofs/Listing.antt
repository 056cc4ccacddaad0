-- Whether the pairs of an assignment are a matching.
use Rattle.std.proofs.Common.{◌≡◌, refl, inl, inr, ap, sym, subst, ◌∙◌, ℕ, zero, suc, ◌+◌, ◌<◌, ◌≤◌, ◌==◌, nat_eq, nat_lt, Bool, true, false, List, [], ◌∷◌, get_or, length, Option, Some, None, Contains, is_some, position, slice_get, arith}
use Rattle.std.specs.List.{IsDistinct, list_any, position_or_len}
use Rattle.std.specs.Map.{keys_of, lookup}
use Rattle.std.specs.Option.{option_map_or}
use Rattle.std.proofs.lemmas.Bool.{cases_Bool, cases_lt, cond-true, cond-false, eqb-true, eq-eqb, lt-ltb, false≢true, or_left, or_right, or_cases}
use Rattle.std.proofs.lemmas.List.Elements.{All-contains, All-from_recursion}
use Rattle.std.proofs.lemmas.List.Quantifiers.{position-Some}
use Rattle.std.proofs.lemmas.List.Sums.{fails_before_first}
use Rattle.std.proofs.lemmas.Map.Keys.{IsDistinct-head, IsDistinct-tail}
use Rattle.std.proofs.lemmas.Option.{none-some, slice_get_within}
use Rattle.sc_papers.specs.Assignment.{assigned}
use Rattle.sc_papers.specs.Market.{Market, choices_of, student_of, students_of}
use Rattle.sc_papers.specs.Matching.{IsMatching}
use Rattle.sc_papers.proofs.Counting.{contains-cons, contains-tail}
use Rattle.sc_papers.proofs.Entering.{is_some-false}
use Rattle.sc_papers.proofs.Keys.{found-by_position}

pair-one : (x y : ℕ × ℕ) → Some x ≡ Some y → x ≡ y
pair-one x y same = ap (λ o. option_map_or (λ (z : ℕ × ℕ). z) o x) same

-- whom a look-up finds stands somewhere
lookup-place : (es : List (ℕ × ℕ)) (i s : ℕ) → lookup (nat_eq i) es ≡ Some s → (k : ℕ) × (slice_get es k ≡ Some (i, s))
lookup-place [] i s found = absurd (none-some s found)
lookup-place (e ∷ es) i s found = elim (cases_Bool (nat_eq i e.0)) [
  | inl same ↦
      let first : i ≡ e.0 = eqb-true i e.0 same in
      let second : Some e.1 ≡ Some s = sym (cond-true (nat_eq i e.0) (Some e.1) (lookup (nat_eq i) es) same) ∙ found in
      let second_is : e.1 ≡ s = ap (λ o. option_map_or (λ (z : ℕ). z) o s) second in
      (0, ap Some (λ t. (sym first t, second_is t)))
  | inr apart ↦
      let (k, here) = lookup-place es i s (sym (cond-false (nat_eq i e.0) (Some e.1) (lookup (nat_eq i) es) apart) ∙ found) in
      (suc k, here)
]

key-among : (es : List (ℕ × ℕ)) (k i s : ℕ) → slice_get es k ≡ Some (i, s) → Contains (keys_of es) i
key-among [] k i s here = absurd (none-some (i, s) here)
key-among (e ∷ es) zero i s here = (0, omega arith, ap (λ (x : ℕ × ℕ). x.0) (pair-one e (i, s) here))
key-among (e ∷ es) (suc k) i s here = contains-tail e.0 (keys_of es) i (key-among es k i s here)

-- and who stands somewhere is found there
place-lookup : (es : List (ℕ × ℕ)) (k i s : ℕ) → IsDistinct nat_eq (keys_of es) → slice_get es k ≡ Some (i, s) → lookup (nat_eq i) es ≡ Some s
place-lookup [] k i s distinct here = absurd (none-some (i, s) here)
place-lookup (e ∷ es) zero i s distinct here =
    let same : e ≡ (i, s) = pair-one e (i, s) here in
    cond-true (nat_eq i e.0) (Some e.1) (lookup (nat_eq i) es) (eq-eqb i e.0 (sym (ap (λ (x : ℕ × ℕ). x.0) same))) ∙ ap Some (ap (λ (x : ℕ × ℕ). x.1) same)
place-lookup (e ∷ es) (suc k) i s distinct here =
    let apart : nat_eq e.0 i ≡ false = All-contains (λ z. nat_eq e.0 z ≡ false) (keys_of es) i (All-from_recursion (λ z. nat_eq e.0 z ≡ false) (keys_of es) (IsDistinct-head nat_eq e.0 (keys_of es) distinct)) (key-among es k i s here) in
    let other : nat_eq i e.0 ≡ false = elim (cases_Bool (nat_eq i e.0)) [
      | inl same ↦ absurd (false≢true (sym apart ∙ eq-eqb e.0 i (sym (eqb-true i e.0 same))))
      | inr fails ↦ fails
    ] in
    cond-false (nat_eq i e.0) (Some e.1) (lookup (nat_eq i) es) other ∙ place-lookup es k i s (IsDistinct-tail nat_eq e.0 (keys_of es) distinct) here

-- a list in which one equals a number contains it
any-contains : (xs : List ℕ) (s : ℕ) → list_any (λ t. t == s) xs ≡ true → Contains xs s
any-contains [] s holds = absurd (false≢true holds)
any-contains (x ∷ xs) s holds = elim (or_cases (x == s) (list_any (λ t. t == s) xs) holds) [
  | inl here ↦ (0, omega arith, eqb-true x s here)
  | inr later ↦ contains-tail x xs s (any-contains xs s later)
]

contains-any : (xs : List ℕ) (s : ℕ) → Contains xs s → list_any (λ t. t == s) xs ≡ true
contains-any [] s (k, low, at) = absurd (omega (arith, low))
contains-any (x ∷ xs) s among = elim (contains-cons x xs s among) [
  | inl here ↦ or_left (x == s) (list_any (λ t. t == s) xs) (eq-eqb x s here)
  | inr later ↦ or_right (x == s) (list_any (λ t. t == s) xs) (contains-any xs s later)
]

-- the first k pairs give only schools that are listed
pub record ListedFirst (m : Market) (pairs : List (ℕ × ℕ)) (k : ℕ) : Type 0 where
  pub listed : (j i s : ℕ) → j < k → slice_get pairs j ≡ Some (i, s) → Contains (choices_of m i) s

pub listed-none : (m : Market) (pairs : List (ℕ × ℕ)) → ListedFirst m pairs 0
listed-none m pairs = record { listed = λ j i s low here. absurd (omega (arith, low)) }

pub listed-more : (m : Market) (pairs : List (ℕ × ℕ)) (k i s : ℕ) → slice_get pairs k ≡ Some (i, s) → list_any (λ t. t == s) (choices_of m i) ≡ true → ListedFirst m pairs k → ListedFirst m pairs (k + 1)
listed-more m pairs k i s here lists before = record {
  listed = λ j x t low there. elim (cases_lt j k) [
    | inl under ↦ before.listed j x t under there
    | inr past ↦
        let same : (i, s) ≡ (x, t) = pair-one (i, s) (x, t) (sym here ∙ ap (slice_get pairs) (omega (arith, low, past)) ∙ there) in
        subst (λ (p : ℕ × ℕ). Contains (choices_of m p.0) p.1) same (any-contains (choices_of m i) s lists)
  ];
}

pub listed-all : (m : Market) (pairs : List (ℕ × ℕ)) (k : ℕ) → length pairs ≤ k → ListedFirst m pairs k → IsMatching m (assigned pairs)
listed-all m pairs k all found = λ i s given.
    let (j, here) = lookup-place pairs i s given in
    found.listed j i s (omega (arith, all, slice_get_within pairs j (i, s) here)) here

pub unlisted : (m : Market) (pairs : List (ℕ × ℕ)) (k i s : ℕ) → IsDistinct nat_eq (keys_of pairs) → slice_get pairs k ≡ Some (i, s) → list_any (λ t. t == s) (choices_of m i) ≡ false → IsMatching m (assigned pairs) → ⊥
unlisted m pairs k i s distinct here fails matching = false≢true (sym fails ∙ contains-any (choices_of m i) s (matching i s (place-lookup pairs k i s distinct here)))

-- a number has a place in a list just where the list contains it
pub ranked-any : (xs : List ℕ) (s : ℕ) (rank : Option ℕ) → position (λ t. t == s) xs ≡ rank → is_some rank ≡ list_any (λ t. t == s) xs
ranked-any xs s (Some rank) found =
    let (low, passes, first) = position-Some (λ t. t == s) xs rank s found in
    sym (contains-any xs s (rank, low, eqb-true (get_or xs rank s) s passes))
ranked-any xs s None none =
    let p : ℕ → Bool = λ t. t == s in
    let past : length xs ≤ position_or_len p xs = elim (cases_lt (position_or_len p xs) (length xs)) [
      | inl low ↦ absurd (none-some (position_or_len p xs) (sym none ∙ cond-true (nat_lt (position_or_len p xs) (length xs)) (Some (position_or_len p xs)) None (lt-ltb (position_or_len p xs) (length xs) low)))
      | inr over ↦ over
    ] in
    elim (cases_Bool (list_any p xs)) [
      | inl some ↦ let (k, low, at) = any-contains xs s some in absurd (false≢true (sym (fails_before_first p xs k s (omega (arith, past, low))) ∙ eq-eqb (get_or xs k s) s at))
      | inr none_is ↦ sym none_is
    ]

-- an unknown student lists nothing
pub unknown-lists : (m : Market) (i s : ℕ) → position (nat_eq i) (students_of m) ≡ None → false ≡ list_any (λ t. t == s) (choices_of m i)
unfolding choices_of
unknown-lists m i s none = rw (is_some-false (student_of m i) (found-by_position m.students i None none)) refl
