-- Entries by their positions, where no two have one key.
use Rattle.std.proofs.Common.{◌≡◌, ◌∙◌, ℕ, suc, zero, Bool, true, false, nat_eq, List, [], ◌∷◌, Option, Some, None, refl, sym, arith, cond}
use Rattle.std.specs.Prelude.{slice_get}
use Rattle.std.specs.List.{AllByRecursion, IsDistinct}
use Rattle.std.specs.Map.{keys_of, lookup}
use Rattle.std.proofs.lemmas.Bool.Decides.{nat_tests}
use Rattle.std.proofs.lemmas.Cmp.{nat_eq_equiv}

apart-at : (x : ℕ) (ys : List ℕ) (k y : ℕ) → AllByRecursion (λ z. nat_eq x z ≡ false) ys → slice_get ys k ≡ Some y → nat_eq x y ≡ false
apart-at x [] k y apart at = cc at
apart-at x (z ∷ zs) zero y apart at =
    let same : z ≡ y = cc at in
    rw (← same) apart.0
apart-at x (z ∷ zs) (suc k) y apart at = apart-at x zs k y apart.1 at

-- an entry is found by its key, and stands where the key does
pub entry-found : {X : Type 0} (es : List (ℕ × X)) (k i : ℕ) → IsDistinct nat_eq (keys_of es) → slice_get (keys_of es) k ≡ Some i
    → (x : X) → lookup (nat_eq i) es ≡ Some x → slice_get es k ≡ Some (i, x)
unfolding IsDistinct
entry-found [] k i differ at x found = cc at
entry-found {X} (e ∷ es) zero i differ at x found =
    let key : e.0 ≡ i = cc at in
    let same : nat_eq i e.0 ≡ true = grind (arith, nat_tests, key) in
    let value : Some e.1 ≡ Some x = rw same at found in
    let is : e.1 ≡ x = cc value in
    rw (← key, ← is) refl
entry-found (e ∷ es) (suc k) i differ at x found =
    let apart = apart-at e.0 (keys_of es) k i differ.0 at in
    let other : nat_eq i e.0 ≡ false = nat_eq_equiv.symm i e.0 ∙ apart in
    entry-found es k i differ.1 at x (rw other at found)

-- a key that stands somewhere is found
pub entry-there : {X : Type 0} (es : List (ℕ × X)) (k i : ℕ) → slice_get (keys_of es) k ≡ Some i → lookup (nat_eq i) es ≡ None → ⊥
entry-there [] k i at none = cc at
entry-there (e ∷ es) zero i at none =
    let key : e.0 ≡ i = cc at in
    let same : nat_eq i e.0 ≡ true = grind (arith, nat_tests, key) in
    let some : Some e.1 ≡ None = rw same at none in
    cc some
entry-there (e ∷ es) (suc k) i at none = go (nat_eq i e.0) none (entry-there es k i at)
  where
    go : (b : Bool) → cond b (Some e.1) (lookup (nat_eq i) es) ≡ None → (lookup (nat_eq i) es ≡ None → ⊥) → ⊥
    go true some rest = cc some
    go false none rest = rest none

-- what a look-up by the key at a position finds is the entry at the position
pub entry-read : {X : Type 0} (es : List (ℕ × X)) (k i : ℕ) (found : Option X) → IsDistinct nat_eq (keys_of es) → slice_get (keys_of es) k ≡ Some i
    → found ≡ lookup (nat_eq i) es → (x : X) → found ≡ Some x → slice_get es k ≡ Some (i, x)
entry-read es k i found differ at is x some = entry-found es k i differ at x (sym is ∙ some)
