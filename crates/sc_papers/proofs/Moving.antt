-- An assignment in which a student who has a place moves to another one, or to none.
use Rattle.std.proofs.Common.{◌≡◌, ℕ, nat_eq, false, cond, List, [], ◌∷◌, Option, None, Some, refl, ◌∙◌, ap, sym, inl, inr}
use Rattle.std.specs.Prelude.{◌&&◌, is_some}
use Rattle.std.specs.Map.{set_value}
use Rattle.std.proofs.lemmas.Bool.{cases_Bool, eqb-true}
use Rattle.std.proofs.lemmas.Cmp.{nat_eq_equiv}
use Rattle.sc_papers.specs.Assignment.{assigned}

-- the places where one student who has one gets another, or none
abbrev pub moved_at : (ℕ → Option ℕ) → ℕ → Option ℕ → ℕ → Option ℕ
moved_at places i place j = cond (nat_eq j i && is_some (places j)) place (places j)

-- whoever has no place stays without
none-taken : (place : Option ℕ) → cond (is_some place) None place ≡ None
none-taken None = refl
none-taken (Some s) = refl

-- the place is taken away, if there is one
pub moved-taken : (places : ℕ → Option ℕ) (i j : ℕ) → cond (nat_eq i j) None (places j) ≡ moved_at places i None j
moved-taken places i j =
    elim (cases_Bool (nat_eq j i)) [
      | inl same ↦
          let back = nat_eq_equiv.symm i j ∙ same in
          rw (same, back) (sym (none-taken (places j)))
      | inr other ↦
          let back = nat_eq_equiv.symm i j ∙ other in
          rw (other, back) refl
    ]

-- where the student has no place, nothing changes
pub moved-absent : (places : ℕ → Option ℕ) (i j : ℕ) (place : Option ℕ) → places i ≡ None → places j ≡ moved_at places i place j
moved-absent places i j place none =
    elim (cases_Bool (nat_eq j i)) [
      | inl same ↦
          let at : j ≡ i = eqb-true j i same in
          let here : places j ≡ None = ap places at ∙ none in
          rw (here, same) refl
      | inr other ↦ rw other refl
    ]

-- the place is replaced
pub assigned-replaced : (pairs : List (ℕ × ℕ)) (i s j : ℕ) → assigned (set_value (nat_eq i) pairs s) j ≡ moved_at (assigned pairs) i (Some s) j
assigned-replaced [] i s j =
    elim (cases_Bool (nat_eq j i)) [ inl same ↦ rw same refl | inr other ↦ rw other refl ]
assigned-replaced (e ∷ es) i s j =
    elim (cases_Bool (nat_eq i e.0)) [
      | inl same ↦
          let at : i ≡ e.0 = eqb-true i e.0 same in
          rw (same, at)
          (elim (cases_Bool (nat_eq j e.0)) [
            | inl found ↦ rw found refl
            | inr missed ↦ rw missed refl
          ])
      | inr other ↦
          rw other
          (elim (cases_Bool (nat_eq j e.0)) [
            | inl found ↦
                let here : j ≡ e.0 = eqb-true j e.0 found in
                let apart : nat_eq j i ≡ false = rw here (nat_eq_equiv.symm e.0 i ∙ other) in
                rw (found, apart) refl
            | inr missed ↦ rw missed (assigned-replaced es i s j)
          ])
    ]
