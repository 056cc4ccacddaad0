-- The search for a school that a list names twice.
use Rattle.std.proofs.Common.{◌≡◌, ℕ, ◌+◌, ◌<◌, ◌==◌, false, List, [], length, take, drop, get_or, cond, Some, None, ◌∷◌, ◌++◌, refl, sym, ap, ◌∙◌, add-one, inl, inr, arith, ◌⊎◌}
use Rattle.std.proofs.lemmas.Bool.{cases_Bool}
use Rattle.std.specs.List.{list_any}
use Rattle.std.proofs.lemmas.List.{append-nil, append_assoc}
use Rattle.std.proofs.Math.Seq.{drop-cons, take-suc}
use Rattle.sc_papers.specs.Verdict.{first_repeat}

-- one place more has been passed, unless its school stands before
pub first_repeat-at : (xs : List ℕ) (i x : ℕ) → i < length xs → x ≡ get_or xs i x
    → first_repeat (take i xs) (drop i xs) ≡ cond (list_any (λ t. t == x) (take i xs)) (Some x) (first_repeat (take (i + 1) xs) (drop (i + 1) xs))
first_repeat-at xs i x h at = rw (add-one, drop-cons xs i x h, take-suc xs i x h, ← at) refl

pub apart : (a b : ℕ) → (a < b) ⊎ (b < a) → a ≡ b → ⊥
apart a b either same = elim either [ inl below ↦ absurd (omega (arith, same, below)) | inr above ↦ absurd (omega (arith, same, above)) ]

-- one number more that equals none before it is no repeat
pub first_repeat-push : (earlier xs : List ℕ) (x : ℕ) → first_repeat earlier xs ≡ None → list_any (λ t. t == x) (earlier ++ xs) ≡ false
    → first_repeat earlier (xs ++ x ∷ []) ≡ None
first_repeat-push earlier [] x none new = rw (sym (ap (list_any (λ t. t == x)) (append-nil earlier)) ∙ new) refl
first_repeat-push earlier (y ∷ ys) x none new =
    elim (cases_Bool (list_any (λ t. t == y) earlier)) [
      | inl met ↦ let some : Some y ≡ None = rw met at none in cc
      | inr fresh ↦
          rw fresh (first_repeat-push (earlier ++ y ∷ []) ys x (rw fresh at none) (ap (list_any (λ t. t == x)) (append_assoc earlier (y ∷ []) ys) ∙ new))
    ]
