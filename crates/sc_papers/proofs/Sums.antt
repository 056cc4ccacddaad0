-- Sums over the members of a list.
use Rattle.std.proofs.Common.{◌≡◌, inl, inr, refl, ap, ap₂, sym, ◌∙◌, ℕ, ◌+◌, nat_eq, true, false, List, [], ◌∷◌, length, Contains, sum_by, count_by, arith}
use Rattle.std.specs.List.{IsDistinct}
use Rattle.std.proofs.lemmas.Bool.{eq-eqb, false≢true}
use Rattle.std.proofs.lemmas.List.Elements.{All-contains, All-from_recursion}
use Rattle.std.proofs.lemmas.List.Sums.{sum_by-cons}
use Rattle.sc_papers.proofs.Counting.{contains-cons, contains-head, contains-tail, count-cons_passes}

-- terms that agree on each member have one sum
pub sum-agree : {X : Type 0} (f g : X → ℕ) (xs : List X) → ((x : X) → Contains xs x → f x ≡ g x) → sum_by f xs ≡ sum_by g xs
sum-agree f g [] agree = refl
sum-agree f g (x ∷ xs) agree =
    sum_by-cons f x xs ∙ ap₂ (λ a b. a + b) (agree x (contains-head x xs)) (sum-agree f g xs (λ y in_rest. agree y (contains-tail x xs y in_rest))) ∙ sym (sum_by-cons g x xs)

pub sum-zero : {X : Type 0} (f : X → ℕ) (xs : List X) → ((x : X) → f x ≡ 0) → sum_by f xs ≡ 0
sum-zero f [] zeros = refl
sum-zero f (x ∷ xs) zeros = omega (arith, sum_by-cons f x xs, zeros x, sum-zero f xs zeros)

pub sum-add : {X : Type 0} (f g : X → ℕ) (xs : List X) → sum_by (λ x. f x + g x) xs ≡ sum_by f xs + sum_by g xs
sum-add f g [] = refl
sum-add f g (x ∷ xs) = omega (arith, sum_by-cons (λ y. f y + g y) x xs, sum_by-cons f x xs, sum_by-cons g x xs, sum-add f g xs)

-- where the term of one member rises by one and the others stay, so does the sum
pub sum-bump : (f g : ℕ → ℕ) (xs : List ℕ) (y : ℕ) → IsDistinct nat_eq xs → Contains xs y → g y ≡ 1 + f y → ((x : ℕ) → (y ≡ x → ⊥) → g x ≡ f x) → sum_by g xs ≡ 1 + sum_by f xs
unfolding IsDistinct
sum-bump f g [] y distinct (k, low, at) more same = absurd (omega (arith, low))
sum-bump f g (x ∷ xs) y distinct among more same =
    let apart : (z : ℕ) → Contains xs z → x ≡ z → ⊥ = λ z in_rest equal.
    false≢true (sym (All-contains (λ w. nat_eq x w ≡ false) xs z (All-from_recursion (λ w. nat_eq x w ≡ false) xs distinct.0) in_rest) ∙ eq-eqb x z equal) in
    elim (contains-cons x xs y among) [
      | inl at ↦ omega (arith, sum_by-cons f x xs, sum_by-cons g x xs, ap g at, ap f at, more, sum-agree g f xs (λ z in_rest. same z (λ equal. apart z in_rest (at ∙ equal))))
      | inr in_rest ↦ omega (arith, sum_by-cons f x xs, sum_by-cons g x xs, same x (λ equal. apart y in_rest (sym equal)), sum-bump f g xs y distinct.1 in_rest more same)
    ]

-- a test that passes all counts all
pub count-all : {X : Type 0} (xs : List X) → count_by (λ x. true) xs ≡ length xs
count-all [] = refl
count-all (x ∷ xs) = omega (arith, count-cons_passes (λ y. true) x xs refl, count-all xs)
