-- An assignment that gives one more place.
use Rattle.std.proofs.Common.{◌≡◌, ℕ, nat_eq, false, cond, List, [], ◌∷◌, ◌++◌, None, Some, refl, ◌∙◌, ap, inl, inr}
use Rattle.std.proofs.lemmas.Bool.{cases_Bool, eqb-true}
use Rattle.std.proofs.lemmas.Cmp.{nat_eq_equiv}
use Rattle.sc_papers.specs.Assignment.{assigned, with_place}

-- the student has the place, and everybody else what they had
pub assigned-with_place : (pairs : List (ℕ × ℕ)) (i s j : ℕ) → assigned (with_place pairs i s) j ≡ cond (nat_eq j i) (Some s) (assigned pairs j)
assigned-with_place [] i s j = refl
assigned-with_place (e ∷ es) i s j =
    elim (cases_Bool (nat_eq i e.0)) [
      | inl same ↦
          let at : i ≡ e.0 = eqb-true i e.0 same in
          rw (same, at)
          (elim (cases_Bool (nat_eq j e.0)) [
            | inl yes_same ↦ rw yes_same refl
            | inr not_same ↦ rw not_same refl
          ])
      | inr other ↦
          rw other
          (elim (cases_Bool (nat_eq j e.0)) [
            | inl found ↦
                let here : j ≡ e.0 = eqb-true j e.0 found in
                let apart : nat_eq j i ≡ false = rw here (nat_eq_equiv.symm e.0 i ∙ other) in
                rw (found, apart) refl
            | inr missed ↦ rw missed (assigned-with_place es i s j)
          ])
    ]

-- a student who has no place comes last with the new one
pub with_place-new : (pairs : List (ℕ × ℕ)) (i s : ℕ) → assigned pairs i ≡ None → with_place pairs i s ≡ pairs ++ (i, s) ∷ []
with_place-new [] i s none = refl
with_place-new (e ∷ es) i s none =
    elim (cases_Bool (nat_eq i e.0)) [
      | inl same ↦ let there = rw same at none in absurd (cc there)
      | inr other ↦ let rest = rw other at none in rw other (ap (λ (tail : List (ℕ × ℕ)). e ∷ tail) (with_place-new es i s rest))
    ]
