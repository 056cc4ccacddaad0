-- Keys put in order.
use Rattle.std.proofs.Common.{◌≡◌, refl, ap, sym, ◌∙◌, inl, inr, subst, suc, ◌-◌, ◌≤◌, Bool, true, false, not, ◌&&◌, cond, List, [], ◌∷◌, length, Some, Contains, All, count_by, slice_get, arith}
use Rattle.std.specs.List.Sorted.{IsPermutation}
use Rattle.std.proofs.lemmas.Bool.{and_parts, cases_Bool, not-true, cond-true, cond-false, true≢false}
use Rattle.std.proofs.lemmas.Bool.Decides.{nat_tests}
use Rattle.std.proofs.lemmas.List.Elements.{All-cons, All-head, All-tail, All-nil, All-weaker, All-contains}
use Rattle.std.proofs.lemmas.List.Sorted.{IsPermutation-refl, IsPermutation-swap, IsPermutation-cons, IsPermutation-trans, IsPermutation-sym, All-permutation, sum_by-IsPermutation, Contains-permutation}
use Rattle.sc_papers.specs.Key.{is_before}
use Rattle.sc_papers.specs.declared.key.Key.{Key}
use Rattle.sc_papers.proofs.Counting.{contains-cons, contains-head, contains-tail, count-cons_passes, count-cons_fails, count-none, count-some}
use Rattle.sc_papers.proofs.Priority.{before-trans, one-key}
use Rattle.sc_seats.specs.Roll.{IsAscending, put_in_order, in_order}

-- whether neither key is ahead of the other
abbrev pub ties : Key → Key → Bool
ties a b = not (is_before a b) && not (is_before b a)

-- then they are one key
pub ties-same : (a b : Key) → ties a b ≡ true → a ≡ b
ties-same a b tie =
    let neither = and_parts (not (is_before a b)) (not (is_before b a)) tie in
    one-key a b (not-true (is_before a b) neither.0) (not-true (is_before b a) neither.1)

pub ties-self : (a : Key) → ties a a ≡ true
ties-self a = grind (arith, nat_tests)

pub before-apart : (a b : Key) → is_before a b ≡ true → ties a b ≡ false
before-apart a b ahead = grind (arith, nat_tests)

pub behind-apart : (a b : Key) → is_before a b ≡ false → ties a b ≡ false → is_before b a ≡ true
behind-apart a b behind apart = grind (arith, nat_tests)

IsPermutation-swap_first : (a b : Key) (rest : List Key) → IsPermutation (a ∷ b ∷ rest) (b ∷ a ∷ rest)
IsPermutation-swap_first a b rest = IsPermutation-swap (a ∷ b ∷ rest) (b ∷ a ∷ rest) 0 1 (omega arith) (omega arith) refl

-- a permutation
pub put-permutes : (key : Key) (keys : List Key) → IsPermutation (key ∷ keys) (put_in_order key keys)
put-permutes key [] = IsPermutation-refl (key ∷ [])
put-permutes key (first ∷ rest) = elim (cases_Bool (is_before key first)) [
  | inl ahead ↦ subst (IsPermutation (key ∷ first ∷ rest)) (sym (cond-true (is_before key first) (key ∷ first ∷ rest) (first ∷ put_in_order key rest) ahead)) (IsPermutation-refl (key ∷ first ∷ rest))
  | inr behind ↦ subst (IsPermutation (key ∷ first ∷ rest)) (sym (cond-false (is_before key first) (key ∷ first ∷ rest) (first ∷ put_in_order key rest) behind))
      (IsPermutation-trans (key ∷ first ∷ rest) (first ∷ key ∷ rest) (first ∷ put_in_order key rest)
      (IsPermutation-swap_first key first rest)
      (IsPermutation-cons first (key ∷ rest) (put_in_order key rest) (put-permutes key rest)))
]

pub in_order-permutes : (keys : List Key) → IsPermutation keys (in_order keys)
in_order-permutes [] = IsPermutation-refl []
in_order-permutes (key ∷ keys) =
    IsPermutation-trans (key ∷ keys) (key ∷ in_order keys) (put_in_order key (in_order keys))
    (IsPermutation-cons key keys (in_order keys) (in_order-permutes keys)) (put-permutes key (in_order keys))

-- no key stands twice
pub record Differ (keys : List Key) : Type 0 where
  pub once : (key : Key) → count_by (ties key) keys ≤ 1

pub Differ-permutation : (xs ys : List Key) → IsPermutation xs ys → Differ xs → Differ ys
Differ-permutation xs ys moved differ = record {
  once = λ key. omega (arith, differ.once key, sum_by-IsPermutation (λ x. cond (ties key x) 1 0) xs ys moved);
}

pub Differ-ascending : (keys : List Key) → IsAscending keys → Differ keys
Differ-ascending [] up = record { once = λ key. omega arith }
Differ-ascending (first ∷ rest) up = record {
  once = λ key. elim (cases_Bool (ties key first)) [
    | inl tie ↦
        let same : key ≡ first = ties-same key first tie in
        let none : count_by (ties key) rest ≡ 0 = count-none (ties key) rest
        (λ x among. before-apart key x (ap (λ k. is_before k x) same ∙ All-contains (λ later. is_before first later ≡ true) rest x up.0 among)) in
        omega (arith, count-cons_passes (ties key) first rest tie, none)
    | inr apart ↦ omega (arith, count-cons_fails (ties key) first rest apart, (Differ-ascending rest up.1).once key)
  ];
}

pub Differ-tail : (key : Key) (keys : List Key) → Differ (key ∷ keys) → Differ keys
Differ-tail key keys differ = record {
  once = λ x. elim (cases_Bool (ties x key)) [
    | inl tie ↦ omega (arith, differ.once x, count-cons_passes (ties x) key keys tie)
    | inr apart ↦ omega (arith, differ.once x, count-cons_fails (ties x) key keys apart)
  ];
}

-- the first ties with none of the rest
pub Differ-head : (key : Key) (keys : List Key) → Differ (key ∷ keys) → (x : Key) → Contains keys x → ties key x ≡ false
Differ-head key keys differ x among = elim (cases_Bool (ties key x)) [
  | inr apart ↦ apart
  | inl tie ↦ absurd (omega (arith, differ.once key, count-cons_passes (ties key) key keys (ties-self key), count-some (ties key) keys x among tie))
]

-- and a new one with none
pub Differ-cons : (key : Key) (keys : List Key) → Differ keys → (Contains keys key → ⊥) → Differ (key ∷ keys)
Differ-cons key keys differ new = record {
  once = λ x. elim (cases_Bool (ties x key)) [
    | inl tie ↦
        let same : x ≡ key = ties-same x key tie in
        let none : count_by (ties x) keys ≡ 0 = count-none (ties x) keys (λ y among. elim (cases_Bool (ties x y)) [
          | inr apart ↦ apart
          | inl found ↦ absurd (new (subst (Contains keys) (sym (ties-same x y found) ∙ same) among))
        ]) in
        omega (arith, count-cons_passes (ties x) key keys tie, none)
    | inr apart ↦ omega (arith, count-cons_fails (ties x) key keys apart, differ.once x)
  ];
}

-- a key put in order among others from which it differs
pub ascending-put : (key : Key) (keys : List Key) → IsAscending keys → ((x : Key) → Contains keys x → ties key x ≡ false) → IsAscending (put_in_order key keys)
ascending-put key [] up apart = (All-nil (λ later. is_before key later ≡ true), tt)
ascending-put key (first ∷ rest) up apart = elim (cases_Bool (is_before key first)) [
  | inl ahead ↦ subst IsAscending (sym (cond-true (is_before key first) (key ∷ first ∷ rest) (first ∷ put_in_order key rest) ahead))
      (All-cons (λ later. is_before key later ≡ true) first rest ahead (All-weaker (λ later. is_before first later ≡ true) (λ later. is_before key later ≡ true) (λ x. before-trans key first x ahead) rest up.0), up)
  | inr behind ↦ subst IsAscending (sym (cond-false (is_before key first) (key ∷ first ∷ rest) (first ∷ put_in_order key rest) behind)) (
    All-permutation (λ later. is_before first later ≡ true) (key ∷ rest) (put_in_order key rest) (put-permutes key rest)
        (All-cons (λ later. is_before first later ≡ true) key rest (behind-apart key first behind (apart first (contains-head first rest))) up.0),
    ascending-put key rest up.1 (λ x among. apart x (contains-tail first rest x among)),
  )
]

pub ascending-in_order : (keys : List Key) → Differ keys → IsAscending (in_order keys)
ascending-in_order [] differ = tt
ascending-in_order (key ∷ keys) differ =
    ascending-put key (in_order keys) (ascending-in_order keys (Differ-tail key keys differ))
    (λ x among. Differ-head key keys differ x (Contains-permutation (in_order keys) keys x (IsPermutation-sym keys (in_order keys) (in_order-permutes keys)) among))

-- a key that is ahead of none of an ascending list that contains it is its last
pub last-of : (keys : List Key) (x : Key) → IsAscending keys → Contains keys x → All (λ y. is_before x y ≡ false) keys → slice_get keys (length keys - 1) ≡ Some x
last-of [] x up (k, low, at) behind = absurd (omega (arith, low))
last-of (first ∷ []) x up among behind = elim (contains-cons first [] x among) [
  | inl same ↦ ap Some same
  | inr (k, low, at) ↦ absurd (omega (arith, low))
]
last-of (first ∷ second ∷ rest) x up among behind = elim (contains-cons first (second ∷ rest) x among) [
  | inl same ↦ absurd (true≢false (sym (All-head (λ later. is_before first later ≡ true) second rest up.0) ∙ ap (λ k. is_before k second) same ∙ All-head (λ y. is_before x y ≡ false) second rest (All-tail (λ y. is_before x y ≡ false) first (second ∷ rest) behind)))
  | inr later ↦
      let place : length (first ∷ second ∷ rest) - 1 ≡ suc (length (second ∷ rest) - 1) = omega arith in
      ap (slice_get (first ∷ second ∷ rest)) place ∙ last-of (second ∷ rest) x up.1 later (All-tail (λ y. is_before x y ≡ false) first (second ∷ rest) behind)
]
