-- Counts of the members of a list that pass a test.
use Rattle.std.proofs.Common.{◌≡◌, ◌⊎◌, inl, inr, refl, ap, sym, ◌∙◌, ℕ, zero, suc, ◌+◌, ◌<◌, ◌≤◌, ◌==◌, nat_eq, Bool, true, false, cond, not, ◌&&◌, List, [], ◌∷◌, Contains, count_by, arith}
use Rattle.std.proofs.lemmas.Bool.{cases_Bool, ne_eqb, eq-eqb, false≢true, true≢false, cond-true, cond-false}
use Rattle.std.specs.List.{IsDistinct}
use Rattle.std.proofs.lemmas.List.Elements.{All-contains, All-from_recursion}
use Rattle.std.proofs.lemmas.List.Sums.{sum_by-cons}

-- what a list contains is its first member or in the rest
pub contains-cons : {X : Type 0} (x : X) (xs : List X) (y : X) → Contains (x ∷ xs) y → (x ≡ y) ⊎ Contains xs y
contains-cons x xs y (zero, low, at) = inl at
contains-cons x xs y (suc k, low, at) = inr (k, omega (arith, low), at)

pub contains-head : {X : Type 0} (x : X) (xs : List X) → Contains (x ∷ xs) x
contains-head x xs = (0, omega arith, refl)

pub contains-tail : {X : Type 0} (x : X) (xs : List X) (y : X) → Contains xs y → Contains (x ∷ xs) y
contains-tail x xs y (k, low, at) = (suc k, omega (arith, low), at)

-- one more member counts by one where it passes
pub count-cons_passes : {X : Type 0} (p : X → Bool) (x : X) (xs : List X) → p x ≡ true → count_by p (x ∷ xs) ≡ 1 + count_by p xs
count-cons_passes p x xs e = sum_by-cons (λ y. cond (p y) 1 0) x xs ∙ ap (λ n. n + count_by p xs) (cond-true (p x) 1 0 e)

pub count-cons_fails : {X : Type 0} (p : X → Bool) (x : X) (xs : List X) → p x ≡ false → count_by p (x ∷ xs) ≡ count_by p xs
count-cons_fails p x xs e = sum_by-cons (λ y. cond (p y) 1 0) x xs ∙ ap (λ n. n + count_by p xs) (cond-false (p x) 1 0 e) ∙ omega arith

-- a weaker test counts no less
pub count-le : {X : Type 0} (p q : X → Bool) (xs : List X) → ((x : X) → Contains xs x → p x ≡ true → q x ≡ true) → count_by p xs ≤ count_by q xs
count-le p q [] weaker = omega arith
count-le p q (x ∷ xs) weaker =
    let rest : count_by p xs ≤ count_by q xs = count-le p q xs (λ y among. weaker y (contains-tail x xs y among)) in
    elim (cases_Bool (p x)) [
      | inl holds ↦ omega (arith, rest, count-cons_passes p x xs holds, count-cons_passes q x xs (weaker x (contains-head x xs) holds))
      | inr fails ↦ elim (cases_Bool (q x)) [
        | inl also ↦ omega (arith, rest, count-cons_fails p x xs fails, count-cons_passes q x xs also)
        | inr neither ↦ omega (arith, rest, count-cons_fails p x xs fails, count-cons_fails q x xs neither)
      ]
    ]

-- and more, where it passes a member that the stronger one refuses
pub count-lt : {X : Type 0} (p q : X → Bool) (xs : List X) → ((x : X) → Contains xs x → p x ≡ true → q x ≡ true) → (y : X) → Contains xs y → p y ≡ false → q y ≡ true → count_by p xs < count_by q xs
count-lt p q [] weaker y (k, low, at) fails holds = absurd (omega (arith, low))
count-lt p q (x ∷ xs) weaker y among fails holds =
    let up : (z : _) → Contains xs z → p z ≡ true → q z ≡ true = λ z in_rest. weaker z (contains-tail x xs z in_rest) in
    elim (contains-cons x xs y among) [
      | inl at ↦ omega (arith, count-le p q xs up, count-cons_fails p x xs (ap p at ∙ fails), count-cons_passes q x xs (ap q at ∙ holds))
      | inr in_rest ↦
          let rest : count_by p xs < count_by q xs = count-lt p q xs up y in_rest fails holds in
          elim (cases_Bool (p x)) [
            | inl first ↦ omega (arith, rest, count-cons_passes p x xs first, count-cons_passes q x xs (weaker x (contains-head x xs) first))
            | inr not_first ↦ elim (cases_Bool (q x)) [
              | inl also ↦ omega (arith, rest, count-cons_fails p x xs not_first, count-cons_passes q x xs also)
              | inr neither ↦ omega (arith, rest, count-cons_fails p x xs not_first, count-cons_fails q x xs neither)
            ]
          ]
    ]

-- some member passes, or each is refused
pub one_passes : {X : Type 0} (p : X → Bool) (xs : List X) → ((x : X) × Contains xs x × (p x ≡ true)) ⊎ ((x : X) → Contains xs x → p x ≡ false)
one_passes p [] = inr (λ x (k, low, at). absurd (omega (arith, low)))
one_passes p (x ∷ xs) =
    elim (cases_Bool (p x)) [
      | inl holds ↦ inl (x, contains-head x xs, holds)
      | inr fails ↦ elim (one_passes p xs) [
        | inl found ↦ inl (found.0, contains-tail x xs found.0 found.1, found.2)
        | inr none ↦ inr (λ y among. elim (contains-cons x xs y among) [ inl at ↦ ap p (sym at) ∙ fails | inr in_rest ↦ none y in_rest ])
      ]
    ]

-- what is so of a test that refuses: the first passes and the second does not
pub split_refused : (a b : Bool) → (a && not b) ≡ false → a ≡ true → b ≡ true
split_refused true true e holds = refl
split_refused true false e holds = absurd (true≢false e)
split_refused false b e holds = absurd (false≢true holds)

pub split_passed : (a b : Bool) → (a && not b) ≡ true → (a ≡ true) × (b ≡ false)
split_passed true true e = absurd (false≢true e)
split_passed true false e = (refl, refl)
split_passed false b e = absurd (false≢true e)

-- the pigeonhole: where p passes at least as many as q, and q passes one that p refuses, p passes
-- one that q refuses
pub pigeonhole : {X : Type 0} (p q : X → Bool) (xs : List X) → count_by q xs ≤ count_by p xs → (y : X) → Contains xs y → p y ≡ false → q y ≡ true → (x : X) × Contains xs x × (p x ≡ true) × (q x ≡ false)
pigeonhole p q xs many y among fails holds =
    elim (one_passes (λ x. p x && not (q x)) xs) [
      | inl found ↦ (found.0, found.1, (split_passed (p found.0) (q found.0) found.2).0, (split_passed (p found.0) (q found.0) found.2).1)
      | inr none ↦ absurd (omega (arith, many, count-lt p q xs (λ x in_list. split_refused (p x) (q x) (none x in_list)) y among fails holds))
    ]

-- tests that agree on each member count alike
pub count-agree : {X : Type 0} (p q : X → Bool) (xs : List X) → ((x : X) → Contains xs x → p x ≡ q x) → count_by p xs ≡ count_by q xs
count-agree p q xs agree =
    let up : count_by p xs ≤ count_by q xs = count-le p q xs (λ x among holds. sym (agree x among) ∙ holds) in
    let down : count_by q xs ≤ count_by p xs = count-le q p xs (λ x among holds. agree x among ∙ holds) in
    omega (arith, up, down)

pub keep-apart : (a b : Bool) → b ≡ false → a ≡ (a && not b)
keep-apart true true apart = absurd (true≢false apart)
keep-apart true false apart = refl
keep-apart false b apart = refl

pub drop-same : (a b : Bool) → b ≡ true → (a && not b) ≡ false
drop-same true true same = refl
drop-same true false same = absurd (false≢true same)
drop-same false b same = refl

-- a count without one member that passes, of a list with no repeats
pub count-split : (p : ℕ → Bool) (xs : List ℕ) (y : ℕ) → IsDistinct nat_eq xs → Contains xs y → p y ≡ true → count_by p xs ≡ 1 + count_by (λ x. p x && not (x == y)) xs
unfolding IsDistinct
count-split p [] y distinct (k, low, at) passes = absurd (omega (arith, low))
count-split p (x ∷ xs) y distinct among passes =
    elim (contains-cons x xs y among) [
      | inl at ↦
          let apart : (z : ℕ) → Contains xs z → nat_eq x z ≡ false = λ z in_rest. All-contains (λ w. nat_eq x w ≡ false) xs z (All-from_recursion (λ w. nat_eq x w ≡ false) xs distinct.0) in_rest in
          let alike : (z : ℕ) → Contains xs z → p z ≡ (p z && not (z == y)) = λ z in_rest. keep-apart (p z) (z == y) (ne_eqb z y (λ same. false≢true (sym (apart z in_rest) ∙ eq-eqb x z (at ∙ sym same)))) in
          omega (arith, count-cons_passes p x xs (ap p at ∙ passes), count-cons_fails (λ z. p z && not (z == y)) x xs (drop-same (p x) (x == y) (eq-eqb x y at)), count-agree p (λ z. p z && not (z == y)) xs alike)
      | inr in_rest ↦
          let apart : (x == y) ≡ false = All-contains (λ w. nat_eq x w ≡ false) xs y (All-from_recursion (λ w. nat_eq x w ≡ false) xs distinct.0) in_rest in
          let rest : count_by p xs ≡ 1 + count_by (λ z. p z && not (z == y)) xs = count-split p xs y distinct.1 in_rest passes in
          elim (cases_Bool (p x)) [
            | inl first ↦ omega (arith, rest, count-cons_passes p x xs first, count-cons_passes (λ z. p z && not (z == y)) x xs (sym (keep-apart (p x) (x == y) apart) ∙ first))
            | inr refused ↦ omega (arith, rest, count-cons_fails p x xs refused, count-cons_fails (λ z. p z && not (z == y)) x xs (sym (keep-apart (p x) (x == y) apart) ∙ refused))
          ]
    ]

-- a test that refuses each member counts none
pub count-none : {X : Type 0} (p : X → Bool) (xs : List X) → ((x : X) → Contains xs x → p x ≡ false) → count_by p xs ≡ 0
count-none p [] none = refl
count-none p (x ∷ xs) none = count-cons_fails p x xs (none x (contains-head x xs)) ∙ count-none p xs (λ y in_rest. none y (contains-tail x xs y in_rest))

-- a member that passes counts
pub count-some : {X : Type 0} (p : X → Bool) (xs : List X) (x : X) → Contains xs x → p x ≡ true → 0 < count_by p xs
count-some p xs x among passes = omega (arith, count-lt (λ y. false) p xs (λ y in_list holds. absurd (false≢true holds)) x among refl passes)

-- where some count, one passes
pub some-counted : {X : Type 0} (p : X → Bool) (xs : List X) → 0 < count_by p xs → (x : X) × Contains xs x × (p x ≡ true)
some-counted p xs some =
    elim (one_passes p xs) [
      | inl found ↦ found
      | inr none ↦ absurd (omega (arith, some, count-none p xs none))
    ]
