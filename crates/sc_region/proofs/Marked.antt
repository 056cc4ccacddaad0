-- Those of a list who are marked.
use Rattle.std.proofs.Common.{◌≡◌, inl, inr, refl, ap, sym, subst, ◌∙◌, ℕ, zero, suc, nat_eq, Bool, true, false, List, [], ◌∷◌, get_or, cond, Some, Contains, slice_get, arith}
use Rattle.std.specs.List.{list_any, IsDistinct}
use Rattle.std.proofs.lemmas.Bool.{cases_Bool, eqb-true, false≢true, false_from_ne_true}
use Rattle.std.proofs.lemmas.Map.Views.{Contains-from_any}
use Rattle.std.proofs.lemmas.Option.{none-some, same_Some}
use Rattle.sc_papers.proofs.Choices.{one-place}
use Rattle.sc_papers.proofs.Counting.{contains-cons, contains-head, contains-tail}
use Rattle.sc_papers.proofs.Positions.{any-among}
use Rattle.sc_region.specs.Marks.{marked}

-- whoever stands at a marked position is among them
pub marked-there : (marks : List Bool) (xs : List ℕ) (at i : ℕ) → slice_get xs at ≡ Some i → get_or marks at false ≡ true → Contains (marked marks xs) i
marked-there marks [] at i here passes = absurd (none-some i here)
marked-there [] (x ∷ xs) at i here passes = absurd (false≢true passes)
marked-there (mark ∷ marks) (x ∷ xs) zero i here passes =
    rw passes (subst (Contains (x ∷ marked marks xs)) (same_Some x i here) (contains-head x (marked marks xs)))
marked-there (mark ∷ marks) (x ∷ xs) (suc at) i here passes = go mark (marked-there marks xs at i here passes)
  where
    go : (b : Bool) → Contains (marked marks xs) i → Contains (cond b (x ∷ marked marks xs) (marked marks xs)) i
    go true later = contains-tail x (marked marks xs) i later
    go false later = later

-- and whoever is among them stands at one
pub marked-from : (marks : List Bool) (xs : List ℕ) (i : ℕ) → Contains (marked marks xs) i → (at : ℕ) × (slice_get xs at ≡ Some i) × (get_or marks at false ≡ true)
marked-from marks [] i (k, low, at) = absurd (omega (arith, low))
marked-from [] (x ∷ xs) i (k, low, at) = absurd (omega (arith, low))
marked-from (mark ∷ marks) (x ∷ xs) i among = go mark refl (marked-from marks xs i) among
  where
    Stands : List ℕ → List Bool → Type 0
    Stands ys bs = (at : ℕ) × (slice_get ys at ≡ Some i) × (get_or bs at false ≡ true)

    further : Stands xs marks → Stands (x ∷ xs) (mark ∷ marks)
    further (at, here, passes) = (suc at, here, passes)

    go : (b : Bool) → mark ≡ b → (Contains (marked marks xs) i → Stands xs marks) → Contains (cond b (x ∷ marked marks xs) (marked marks xs)) i → Stands (x ∷ xs) (mark ∷ marks)
    go true is rest among = elim (contains-cons x (marked marks xs) i among) [
      | inl same ↦ (zero, ap Some same, is)
      | inr later ↦ further (rest later)
    ]
    go false is rest among = further (rest among)

-- so where all differ, a mark tells whether the one at its position is among them
pub marked-told : (marks : List Bool) (xs : List ℕ) (at i : ℕ) → IsDistinct nat_eq xs → slice_get xs at ≡ Some i → get_or marks at false ≡ list_any (nat_eq i) (marked marks xs)
marked-told marks xs at i differ here =
    elim (cases_Bool (get_or marks at false)) [
      | inl passes ↦ passes ∙ sym (any-among (marked marks xs) i (marked-there marks xs at i here passes))
      | inr fails ↦
          fails
          ∙ sym (false_from_ne_true (list_any (nat_eq i) (marked marks xs)) (λ among.
          let (other, there, passes) = marked-from marks xs i (Contains-from_any eqb-true i (marked marks xs) among) in
          false≢true (sym fails ∙ ap (λ k. get_or marks k false) (one-place xs at other i differ here there) ∙ passes)))
    ]
