-- The last of some keys: it is one of them, it is ahead of none, and their order does not decide it.
use Rattle.std.proofs.Common.{◌≡◌, inl, inr, refl, sym, ◌∙◌, ap, subst, ℕ, ◌<◌, Bool, true, false, List, [], ◌∷◌, length, map, filter, fold, None, Some, Contains, arith}
use Rattle.std.proofs.lemmas.Bool.{cases_Bool, cond-true, cond-false}
use Rattle.std.proofs.lemmas.Option.{none-some, same_Some}
use Rattle.sc_papers.specs.Key.{is_before}
use Rattle.sc_papers.specs.declared.key.Key.{Key}
use Rattle.sc_papers.proofs.Counting.{contains-cons, contains-head, contains-tail}
use Rattle.sc_papers.proofs.Priority.{before-asymm, before-irrefl, behind-trans, one-key}
use Rattle.sc_tallies.specs.LastKey.{last_key, or_later}

-- of a key and some more the last is one of them
pub last-from : (first : Key) (keys : List Key) → (last : Key) × (fold or_later (Some first) keys ≡ Some last) × Contains (first ∷ keys) last
last-from first [] = (first, refl, contains-head first [])
last-from first (key ∷ keys) = elim (cases_Bool (is_before key first)) [
  | inl ahead ↦
      let (last, is, among) = last-from first keys in (
        last,
        ap (λ k. fold or_later (Some k) keys) (cond-true (is_before key first) first key ahead) ∙ is,
        elim (contains-cons first keys last among) [
          | inl same ↦ subst (Contains (first ∷ key ∷ keys)) same (contains-head first (key ∷ keys))
          | inr later ↦ contains-tail first (key ∷ keys) last (contains-tail key keys last later)
        ],
      )
  | inr behind ↦
      let (last, is, among) = last-from key keys in
      (last, ap (λ k. fold or_later (Some k) keys) (cond-false (is_before key first) first key behind) ∙ is, contains-tail first (key ∷ keys) last among)
]

-- a last key is one of the keys, and there is one where there are keys
pub last-among : (keys : List Key) → 0 < length keys → (last : Key) × (last_key keys ≡ Some last) × Contains keys last
unfolding last_key
last-among [] some = absurd (omega (arith, some))
last-among (key ∷ keys) some = last-from key keys

pub last-found : (keys : List Key) → 0 < length keys → last_key keys ≡ None → ⊥
last-found keys some none =
    let found : (last : Key) × (last_key keys ≡ Some last) × Contains keys last = last-among keys some in
    none-some found.0 (sym none ∙ found.1)

-- and a last key is one of the keys
pub last-contained : (keys : List Key) (last : Key) → last_key keys ≡ Some last → Contains keys last
unfolding last_key
last-contained [] last is = absurd (none-some last is)
last-contained (key ∷ keys) last is =
    let (found, found_is, among) = last-from key keys in
    subst (Contains (key ∷ keys)) (same_Some found last (sym found_is ∙ is)) among

last-after_from : (first : Key) (keys : List Key) (last : Key) → fold or_later (Some first) keys ≡ Some last → (key : Key) → Contains (first ∷ keys) key → is_before last key ≡ false
last-after_from first [] last is key among = elim (contains-cons first [] key among) [
  | inl same ↦ subst (λ k. is_before last k ≡ false) (sym (same_Some first last is) ∙ same) (before-irrefl last)
  | inr (k, low, at) ↦ absurd (omega (arith, low))
]
last-after_from first (next ∷ keys) last is key among = elim (cases_Bool (is_before next first)) [
  | inl ahead ↦
      let rest : fold or_later (Some first) keys ≡ Some last = sym (ap (λ k. fold or_later (Some k) keys) (cond-true (is_before next first) first next ahead)) ∙ is in
      let past : is_before last first ≡ false = last-after_from first keys last rest first (contains-head first keys) in
      elim (contains-cons first (next ∷ keys) key among) [
        | inl same ↦ subst (λ k. is_before last k ≡ false) same past
        | inr later ↦ elim (contains-cons next keys key later) [
          | inl same ↦ subst (λ k. is_before last k ≡ false) same (behind-trans last first next past (before-asymm next first ahead))
          | inr in_rest ↦ last-after_from first keys last rest key (contains-tail first keys key in_rest)
        ]
      ]
  | inr behind ↦
      let rest : fold or_later (Some next) keys ≡ Some last = sym (ap (λ k. fold or_later (Some k) keys) (cond-false (is_before next first) first next behind)) ∙ is in
      elim (contains-cons first (next ∷ keys) key among) [
        | inl same ↦ subst (λ k. is_before last k ≡ false) same (behind-trans last next first (last-after_from next keys last rest next (contains-head next keys)) behind)
        | inr later ↦ last-after_from next keys last rest key later
      ]
]

-- the last key is ahead of none of the keys
pub last-after : (keys : List Key) (last : Key) → last_key keys ≡ Some last → (key : Key) → Contains keys key → is_before last key ≡ false
unfolding last_key
last-after [] last is key (k, low, at) = absurd (omega (arith, low))
last-after (first ∷ keys) last is key among = last-after_from first keys last is key among

-- the same keys in another order, or more often, have the same last key
pub last-same : (keys others : List Key) → ((key : Key) → Contains keys key → Contains others key) → ((key : Key) → Contains others key → Contains keys key) → last_key keys ≡ last_key others
unfolding last_key
last-same [] [] to from = refl
last-same [] (key ∷ others) to from = let (k, low, at) = from key (contains-head key others) in absurd (omega (arith, low))
last-same (key ∷ keys) [] to from = let (k, low, at) = to key (contains-head key keys) in absurd (omega (arith, low))
last-same (x ∷ xs) (y ∷ ys) to from =
    let (last, is, among) = last-from x xs in
    let (other, other_is, other_among) = last-from y ys in
    is ∙ ap Some (one-key last other (last-after_from x xs last is other (from other other_among)) (last-after_from y ys other other_is last (to last among))) ∙ sym other_is

-- each key is the key of a number that passes, and each number that passes has its key there
pub keyed : (p : ℕ → Bool) (f : ℕ → Key) (xs : List ℕ) (key : Key) → Contains (map f (filter p xs)) key → (j : ℕ) × Contains xs j × (p j ≡ true) × (f j ≡ key)
keyed p f [] key (k, low, at) = absurd (omega (arith, low))
keyed p f (x ∷ xs) key among = elim (cases_Bool (p x)) [
  | inl passes ↦ elim (contains-cons (f x) (map f (filter p xs)) key (subst (λ ys. Contains (map f ys) key) (cond-true (p x) (x ∷ filter p xs) (filter p xs) passes) among)) [
    | inl same ↦ (x, contains-head x xs, passes, same)
    | inr later ↦ let (j, here, holds, is) = keyed p f xs key later in (j, contains-tail x xs j here, holds, is)
  ]
  | inr fails ↦
      let (j, here, holds, is) = keyed p f xs key (subst (λ ys. Contains (map f ys) key) (cond-false (p x) (x ∷ filter p xs) (filter p xs) fails) among) in
      (j, contains-tail x xs j here, holds, is)
]

pub key-among : (p : ℕ → Bool) (f : ℕ → Key) (xs : List ℕ) (j : ℕ) → Contains xs j → p j ≡ true → Contains (map f (filter p xs)) (f j)
key-among p f [] j (k, low, at) holds = absurd (omega (arith, low))
key-among p f (x ∷ xs) j among holds = elim (contains-cons x xs j among) [
  | inl same ↦
      subst (λ ys. Contains (map f ys) (f j)) (sym (cond-true (p x) (x ∷ filter p xs) (filter p xs) (ap p same ∙ holds)))
      (subst (λ y. Contains (f x ∷ map f (filter p xs)) (f y)) same (contains-head (f x) (map f (filter p xs))))
  | inr later ↦
      let rest : Contains (map f (filter p xs)) (f j) = key-among p f xs j later holds in
      elim (cases_Bool (p x)) [
        | inl passes ↦ subst (λ ys. Contains (map f ys) (f j)) (sym (cond-true (p x) (x ∷ filter p xs) (filter p xs) passes)) (contains-tail (f x) (map f (filter p xs)) (f j) rest)
        | inr fails ↦ subst (λ ys. Contains (map f ys) (f j)) (sym (cond-false (p x) (x ∷ filter p xs) (filter p xs) fails)) rest
      ]
]
