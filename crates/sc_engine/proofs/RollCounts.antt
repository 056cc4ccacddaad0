-- A roll that fits, by how many of its keys pass each test.
use Rattle.std.proofs.Common.{◌≡◌, refl, ap, sym, subst, ◌∙◌, ℕ, ◌+◌, ◌<◌, ◌≤◌, ◌==◌, Bool, true, false, cond, ◌&&◌, List, [], ◌∷◌, length, map, filter, All, Contains, count_by, remove, arith}
use Rattle.std.specs.List.Sorted.{IsPermutation}
use Rattle.std.proofs.lemmas.Bool.{eqb-true, eq-eqb}
use Rattle.std.proofs.lemmas.List.Elements.{All-head, All-map, All-tail}
use Rattle.std.proofs.lemmas.List.Sorted.{All-permutation, IsPermutation-cons, IsPermutation-map, IsPermutation-refl, IsPermutation-remove, IsPermutation-sym, IsPermutation-trans, sum_by-IsPermutation}
use Rattle.std.proofs.lemmas.List.Sums.{sum_by-cons}
use Rattle.sc_papers.specs.Market.{Market, seats_of, students_of}
use Rattle.sc_papers.specs.Key.{key_of}
use Rattle.sc_papers.specs.Matching.{Matching, has, how_many}
use Rattle.sc_papers.specs.declared.key.Key.{Key}
use Rattle.sc_papers.proofs.Counting.{contains-head, count-some, some-counted}
use Rattle.sc_papers.proofs.Restriction.{count-filter}
use Rattle.sc_papers.proofs.Sums.{count-all}
use Rattle.sc_seats.specs.Roll.{RollView}
use Rattle.sc_engine.specs.RoundView.{RollFits}

-- the same of a roll, by counts
pub record IsCounted (m : Market) (a : Matching) (s : ℕ) (roll : RollView) : Type 0 where
  pub seats : roll.seats ≡ seats_of m s
  pub within : length roll.keys ≤ roll.seats
  pub keyed : All (λ key. key ≡ key_of m key.student s) roll.keys
  pub exact : (p : ℕ → Bool) → count_by (λ (key : Key). p key.student) roll.keys ≡ how_many m (λ j. p j && has a s j)

pub key-student : (m : Market) (i s : ℕ) → (key_of m i s).student ≡ i
unfolding key_of
key-student m i s = refl

-- a test of what is made of each counts the same before
counts-mapped : {X Y : Type 0} (p : Y → Bool) (f : X → Y) (xs : List X) → count_by p (map f xs) ≡ count_by (λ x. p (f x)) xs
counts-mapped p f [] = refl
counts-mapped p f (x ∷ xs) =
    sum_by-cons (λ y. cond (p y) 1 0) (f x) (map f xs) ∙ ap (λ n. cond (p (f x)) 1 0 + n) (counts-mapped p f xs) ∙ sym (sum_by-cons (λ y. cond (p (f y)) 1 0) x xs)

both-ways : (a b : Bool) → (a && b) ≡ (b && a)
both-ways true true = refl
both-ways true false = refl
both-ways false true = refl
both-ways false false = refl

-- and two tests among all as one among those who pass the other
counts-filter : (p q : ℕ → Bool) (xs : List ℕ) → count_by p (filter q xs) ≡ count_by (λ j. p j && q j) xs
counts-filter p q xs = count-filter p q xs ∙ (λ t. count_by (λ j. both-ways (q j) (p j) t) xs)

pub counted : (m : Market) (a : Matching) (s : ℕ) (roll : RollView) → RollFits m a s roll → IsCounted m a s roll
unfolding how_many
counted m a s roll fits =
    let here : ℕ → Bool = has a s in
    let theirs : List Key = map (λ j. key_of m j s) (filter here (students_of m)) in
    record {
      seats = fits.seats;
      within = fits.within;
      keyed = All-permutation (λ key. key ≡ key_of m key.student s) theirs roll.keys (IsPermutation-sym roll.keys theirs fits.holds)
          (All-map (λ key. key ≡ key_of m key.student s) (λ j. key_of m j s) (filter here (students_of m)) (λ k d low. ap (λ i. key_of m i s) (sym (key-student m _ s))));
      exact = λ p. sym (sum_by-IsPermutation (λ (key : Key). cond (p key.student) 1 0) roll.keys theirs fits.holds) ∙ counts-mapped (λ (key : Key). p key.student) (λ j. key_of m j s) (filter here (students_of m))
          ∙ (λ t. count_by (λ j. p (key-student m j s t)) (filter here (students_of m))) ∙ counts-filter p here (students_of m);
    }

-- two lists in which each test counts the same have the same members
same-counts : (xs ys : List ℕ) → ((p : ℕ → Bool) → count_by p xs ≡ count_by p ys) → IsPermutation xs ys
same-counts [] [] same = IsPermutation-refl []
same-counts [] (y ∷ ys) same = absurd (omega (arith, same (λ j. true), count-all (y ∷ ys)))
same-counts (x ∷ xs) ys same =
    let some : 0 < count_by (λ j. j == x) ys = subst (λ n. 0 < n) (same (λ j. j == x)) (count-some (λ j. j == x) (x ∷ xs) x (contains-head x xs) (eq-eqb x x refl)) in
    let found = some-counted (λ j. j == x) ys some in
    let among : Contains ys x = subst (Contains ys) (eqb-true found.0 x found.2) found.1 in
    let rest : List ℕ = remove ys among.0 in
    let moved : IsPermutation ys (x ∷ rest) = IsPermutation-remove ys among.0 x among.1 (sym among.2) in
    IsPermutation-trans (x ∷ xs) (x ∷ rest) ys
    (IsPermutation-cons x xs rest (same-counts xs rest (λ p.
    let all = sum_by-IsPermutation (λ j. cond (p j) 1 0) ys (x ∷ rest) moved in
    omega (arith, all, same p, sum_by-cons (λ j. cond (p j) 1 0) x rest, sum_by-cons (λ j. cond (p j) 1 0) x xs))))
    (IsPermutation-sym ys (x ∷ rest) moved)

-- keys are those of their students at the school
keyed-again : (m : Market) (s : ℕ) (keys : List Key) → All (λ key. key ≡ key_of m key.student s) keys → map (λ j. key_of m j s) (map (λ (key : Key). key.student) keys) ≡ keys
keyed-again m s [] own = refl
keyed-again m s (key ∷ keys) own =
    ap (λ k. k ∷ map (λ j. key_of m j s) (map (λ (key : Key). key.student) keys)) (sym (All-head (λ key. key ≡ key_of m key.student s) key keys own))
    ∙ ap (λ l. key ∷ l) (keyed-again m s keys (All-tail (λ key. key ≡ key_of m key.student s) key keys own))

pub fits-counted : (m : Market) (a : Matching) (s : ℕ) (roll : RollView) → IsCounted m a s roll → RollFits m a s roll
unfolding how_many
fits-counted m a s roll counted =
    let here : ℕ → Bool = has a s in
    let who : List ℕ = map (λ (key : Key). key.student) roll.keys in
    record {
      seats = counted.seats;
      within = counted.within;
      holds = subst (λ keys. IsPermutation keys (map (λ j. key_of m j s) (filter here (students_of m)))) (keyed-again m s roll.keys counted.keyed)
          (IsPermutation-map (λ j. key_of m j s) who (filter here (students_of m))
          (same-counts who (filter here (students_of m)) (λ p. counts-mapped p (λ (key : Key). key.student) roll.keys ∙ counted.exact p ∙ sym (counts-filter p here (students_of m)))));
    }
