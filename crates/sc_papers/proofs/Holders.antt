-- How many pairs of an assignment have a school, where one student's place changes.
use Rattle.std.proofs.Common.{◌≡◌, ℕ, ◌+◌, ◌<◌, ◌==◌, nat_eq, cond, List, [], ◌∷◌, Option, None, Some, length, get_or, position, slice_get, refl, ◌∙◌, arith, inl, inr, zero, suc}
use Rattle.std.specs.Map.{keys_of, set_value, values_of}
use Rattle.std.proofs.lemmas.Bool.{cases_Bool, cond-true, eq-eqb}
use Rattle.std.proofs.lemmas.List.Sums.{sum_by-cons, sum_by-swap_remove}
use Rattle.indexmap.specs.IndexMap.{swap_remove_entry}
use Rattle.indexmap.proofs.MapLemmas.{Found-position, swap_remove_entry-found, swap_remove_entry-missing}
use Rattle.sc_papers.specs.Assignment.{assigned, holders, holding}

-- one where a pair has the school
abbrev one_for : ℕ → ℕ × ℕ → ℕ
one_for s pair = cond (pair.1 == s) 1 0

holders-cons : (e : ℕ × ℕ) (es : List (ℕ × ℕ)) (s : ℕ) → holders (e ∷ es) s ≡ one_for s e + holders es s
holders-cons e es s = sum_by-cons (one_for s) e es

-- whoever has a school is counted there
pub holders-some : (pairs : List (ℕ × ℕ)) (i s : ℕ) → assigned pairs i ≡ Some s → 0 < holders pairs s
holders-some [] i s has = absurd (cc has)
holders-some (e ∷ es) i s has =
    elim (cases_Bool (nat_eq i e.0)) [
      | inl same ↦
          let here = rw same at has in
          let at : e.1 ≡ s = cc here in
          omega (arith, holders-cons e es s, cond-true {A = ℕ} (e.1 == s) 1 0 (eq-eqb e.1 s at))
      | inr other ↦ let rest = rw other at has in omega (arith, holders-cons e es s, holders-some es i s rest)
    ]

-- a place is replaced
pub holders-replaced : (pairs : List (ℕ × ℕ)) (i t s : ℕ)
    → holders (set_value (nat_eq i) pairs t) s + holding (assigned pairs) s i ≡ holders pairs s + holding (assigned (set_value (nat_eq i) pairs t)) s i
holders-replaced [] i t s = refl
holders-replaced (e ∷ es) i t s =
    elim (cases_Bool (nat_eq i e.0)) [
      | inl same ↦ rw (same, same) (omega (arith, holders-cons e es s, holders-cons (e.0, t) es s))
      | inr other ↦ rw (other, other) (omega (arith, holders-cons e es s, holders-cons e (set_value (nat_eq i) es t) s, holders-replaced es i t s))
    ]

-- the school of the pair at a place
school-at : (pairs : List (ℕ × ℕ)) (k : ℕ) (d : ℕ × ℕ) → k < length pairs → slice_get (values_of pairs) k ≡ Some (get_or pairs k d).1
school-at [] k d low = absurd (omega (arith, low))
school-at (e ∷ es) zero d low = refl
school-at (e ∷ es) (suc k) d low = school-at es k d (omega (arith, low))

-- a pair is taken away, if there is one, after which the student has none
pub holders-removed : (pairs : List (ℕ × ℕ)) (i s : ℕ) → assigned (swap_remove_entry (nat_eq i) pairs) i ≡ None
    → holders (swap_remove_entry (nat_eq i) pairs) s + holding (assigned pairs) s i ≡ holders pairs s + holding (assigned (swap_remove_entry (nat_eq i) pairs)) s i
holders-removed pairs i s none = by (position (nat_eq i) (keys_of pairs)) refl
  where
    by : (found : Option ℕ) → position (nat_eq i) (keys_of pairs) ≡ found
        → holders (swap_remove_entry (nat_eq i) pairs) s + holding (assigned pairs) s i ≡ holders pairs s + holding (assigned (swap_remove_entry (nat_eq i) pairs)) s i
    by None missing = rw (swap_remove_entry-missing (nat_eq i) pairs missing) refl
    by (Some k) at =
        let d : ℕ × ℕ = (0, 0) in
        let found = Found-position (nat_eq i) pairs k at in
        let had : assigned pairs i ≡ Some (get_or pairs k d).1 = found.value ∙ school-at pairs k d found.within in
        rw (none, had) (rw (swap_remove_entry-found (nat_eq i) pairs k d at) (omega (arith, sum_by-swap_remove (one_for s) pairs k d found.within)))
