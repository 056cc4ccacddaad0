-- Numbers seen so far: one more in the tree, and whether there is one.
use Rattle.std.proofs.Common.{◌≡◌, ℕ, ◌<◌, Bool, true, false, ◌||◌, nat_eq, List, [], ◌∷◌, refl, sym, ap, ◌∙◌, arith, Ordering, Less, Equal, Greater}
use Rattle.std.specs.Prelude.{cond}
use Rattle.std.specs.List.{list_any}
use Rattle.std.specs.BTreeSet.{BTreeSet, Updates, contains}
use Rattle.std.specs.Ordering.{MatchOrdering, is_eq, nat_cmp}
use Rattle.std.proofs.lemmas.Cmp.{ranked}

pub same-number : (n : ℕ) → nat_eq n n ≡ true
same-number n = grind arith

-- the order's equality
pub cmp-eq : (x y : ℕ) → is_eq (nat_cmp x y) ≡ nat_eq x y
cmp-eq x y = by (nat_cmp x y) (ranked x y (nat_cmp x y) refl)
  where
    by : (o : Ordering) → MatchOrdering o (x < y) (x ≡ y) (y < x) → is_eq o ≡ nat_eq x y
    by Less less = grind arith
    by Equal same = grind arith
    by Greater greater = grind arith

-- whether the tree has a number
pub tree-has : (s : BTreeSet ℕ) (n : ℕ) → contains nat_cmp s n ≡ list_any (nat_eq n) s.keys
tree-has s n = by s.keys
  where
    by : (ks : List ℕ) → list_any (λ k. is_eq (nat_cmp n k)) ks ≡ list_any (nat_eq n) ks
    by [] = refl
    by (k ∷ ks) = rw (cmp-eq n k, by ks) refl

-- the tree after an insertion
pub tree-more : (old new : BTreeSet ℕ) (n m : ℕ) → Updates nat_cmp old new n true → list_any (nat_eq m) new.keys ≡ (nat_eq m n || list_any (nat_eq m) old.keys)
tree-more old new n m updates =
    sym (tree-has new m) ∙ updates.0 m ∙ by (is_eq (nat_cmp n m)) (nat_eq m n) (cmp-eq n m ∙ turned) ∙ ap (λ (b : Bool). nat_eq m n || b) (tree-has old m)
  where
    turned : nat_eq n m ≡ nat_eq m n
    turned = grind arith

    by : (a b : Bool) → a ≡ b → cond a true (contains nat_cmp old m) ≡ (b || contains nat_cmp old m)
    by true true is = refl
    by false false is = refl
    by true false is = cc is
    by false true is = cc is
