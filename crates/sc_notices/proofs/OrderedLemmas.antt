-- Sorted keys are the keys put in order: there is one such order.
use Rattle.std.proofs.Common.{◌≡◌, refl, sym, ◌∙◌, ap, subst, inl, inr, ℕ, suc, ◌+◌, ◌<◌, true, false, cond, List, [], ◌∷◌, length, get_or, All, sum_by, arith}
use Rattle.std.specs.Bool.{⊤}
use Rattle.std.specs.List.Sorted.{IsPermutation, IsSorted}
use Rattle.std.specs.Ordering.{is_lt}
use Rattle.std.proofs.lemmas.Bool.{cases_Bool, cond-true, cond-false}
use Rattle.std.proofs.lemmas.Bool.Decides.{nat_tests}
use Rattle.std.proofs.lemmas.List.Elements.{All-cons, All-head, All-nil, All-tail, All-weaker}
use Rattle.std.proofs.lemmas.List.Sorted.{All-permutation, sum_by-IsPermutation}
use Rattle.std.proofs.lemmas.List.Sums.{sum_by-cons}
use Rattle.sc_papers.specs.Key.{is_before, key_cmp}
use Rattle.sc_papers.specs.declared.key.Key.{Key}
use Rattle.sc_papers.proofs.Priority.{before-asymm, before-irrefl, behind-trans, one-key}
use Rattle.sc_seats.specs.Roll.{in_order, put_in_order}
use Rattle.sc_seats.proofs.Ordering.{in_order-permutes, put-permutes}

-- no key is ahead of one that stands before it
abbrev Ordered : List Key → Type 0
Ordered [] = ⊤
Ordered (x ∷ xs) = All (λ y. is_before y x ≡ false) xs × Ordered xs

behind-first : (key first x : Key) → is_before key first ≡ true → is_before x first ≡ false → is_before x key ≡ false
behind-first key first x ahead behind = behind-trans x first key behind (before-asymm key first ahead)

put-ordered : (key : Key) (keys : List Key) → Ordered keys → Ordered (put_in_order key keys)
put-ordered key [] up = (All-nil (λ y. is_before y key ≡ false), tt)
put-ordered key (first ∷ rest) up = elim (cases_Bool (is_before key first)) [
  | inl ahead ↦ subst Ordered (sym (cond-true (is_before key first) (key ∷ first ∷ rest) (first ∷ put_in_order key rest) ahead)) (
    All-cons (λ y. is_before y key ≡ false) first rest (before-asymm key first ahead)
        (All-weaker (λ y. is_before y first ≡ false) (λ y. is_before y key ≡ false) (λ y behind. behind-first key first y ahead behind) rest up.0),
    up,
  )
  | inr later ↦ subst Ordered (sym (cond-false (is_before key first) (key ∷ first ∷ rest) (first ∷ put_in_order key rest) later)) (
    All-permutation (λ y. is_before y first ≡ false) (key ∷ rest) (put_in_order key rest) (put-permutes key rest)
        (All-cons (λ y. is_before y first ≡ false) key rest later up.0),
    put-ordered key rest up.1,
  )
]

in_order-ordered : (keys : List Key) → Ordered (in_order keys)
in_order-ordered [] = tt
in_order-ordered (key ∷ keys) = put-ordered key (in_order keys) (in_order-ordered keys)

-- each of some keys stands no further ahead than the one before it
abbrev Adjacent : List Key → Type 0
Adjacent keys = (k : ℕ) (d : Key) → suc k < length keys → is_before (get_or keys (suc k) d) (get_or keys k d) ≡ false

adjacent-ordered : (keys : List Key) → Adjacent keys → Ordered keys
adjacent-ordered [] up = tt
adjacent-ordered (x ∷ []) up = (All-nil (λ y. is_before y x ≡ false), tt)
adjacent-ordered (x ∷ y ∷ rest) up =
    let later : Ordered (y ∷ rest) = adjacent-ordered (y ∷ rest) (λ k d low. up (suc k) d (omega (arith, low))) in
    let next : is_before y x ≡ false = up 0 x (omega arith) in (
      All-cons (λ z. is_before z x ≡ false) y rest next
          (All-weaker (λ z. is_before z y ≡ false) (λ z. is_before z x ≡ false) (λ z behind. behind-trans z y x behind next) rest later.0),
      later,
    )

-- how many keys are ahead of one that none is ahead of
ahead-none : (x : Key) (keys : List Key) → All (λ y. is_before y x ≡ false) keys → sum_by (λ y. cond (is_before y x) 1 0) keys ≡ 0
ahead-none x [] behind = refl
ahead-none x (y ∷ ys) behind =
    omega (
      arith,
      sum_by-cons (λ z. cond (is_before z x) 1 0) y ys,
      cond-false {A = ℕ} (is_before y x) 1 0 (All-head (λ z. is_before z x ≡ false) y ys behind),
      ahead-none x ys (All-tail (λ z. is_before z x ≡ false) y ys behind),
    )

not-ahead : (x : Key) (xs : List Key) (y : Key) (ys : List Key) → All (λ z. is_before z x ≡ false) xs
    → sum_by (λ z. cond (is_before z x) 1 0) (x ∷ xs) ≡ sum_by (λ z. cond (is_before z x) 1 0) (y ∷ ys) → is_before y x ≡ false
not-ahead x xs y ys up same = elim (cases_Bool (is_before y x)) [
  | inr behind ↦ behind
  | inl ahead ↦
      let none = ahead-none x (x ∷ xs) (All-cons (λ z. is_before z x ≡ false) x xs (before-irrefl x) up) in
      absurd (omega (arith, same, none, sum_by-cons (λ z. cond (is_before z x) 1 0) y ys, cond-true {A = ℕ} (is_before y x) 1 0 ahead))
]

-- two ordered lists of the same keys are one list
ordered-unique : (xs ys : List Key) → Ordered xs → Ordered ys → ((f : Key → ℕ) → sum_by f xs ≡ sum_by f ys) → xs ≡ ys
ordered-unique [] [] up_x up_y same = refl
ordered-unique [] (y ∷ ys) up_x up_y same = absurd (omega (arith, same (λ z. 1), sum_by-cons (λ z. 1) y ys))
ordered-unique (x ∷ xs) [] up_x up_y same = absurd (omega (arith, same (λ z. 1), sum_by-cons (λ z. 1) x xs))
ordered-unique (x ∷ xs) (y ∷ ys) up_x up_y same =
    let one : x ≡ y = one-key x y
    (not-ahead y ys x xs up_y.0 (sym (same (λ z. cond (is_before z y) 1 0))))
    (not-ahead x xs y ys up_x.0 (same (λ z. cond (is_before z x) 1 0))) in
    let rest : xs ≡ ys = ordered-unique xs ys up_x.1 up_y.1
    (λ f. omega (arith, same f, ap f one, sum_by-cons f x xs, sum_by-cons f y ys)) in
    λ t. one t ∷ rest t

not-less : (a b : Key) → is_lt (key_cmp a b) ≡ false → is_before a b ≡ false
not-less a b fails = grind (arith, nat_tests)

-- what was sorted is the same keys put in order
pub sorted-in_order : (xs ys : List Key) → IsPermutation xs ys → IsSorted key_cmp ys → ys ≡ in_order xs
sorted-in_order xs ys moved sorted =
    ordered-unique ys (in_order xs)
    (adjacent-ordered ys (λ k d low.
    let next : k + 1 ≡ suc k = omega arith in
    subst (λ n. is_before (get_or ys n d) (get_or ys k d) ≡ false) next
    (not-less (get_or ys (k + 1) d) (get_or ys k d) (sorted k d (omega arith) (omega (arith, low))))))
    (in_order-ordered xs)
    (λ f. sum_by-IsPermutation f xs ys moved ∙ sym (sum_by-IsPermutation f xs (in_order xs) (in_order-permutes xs)))
