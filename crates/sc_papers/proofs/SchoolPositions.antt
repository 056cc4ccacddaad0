-- Where schools stand, as a table by their numbers keeps it.
use Rattle.std.proofs.Common.{◌≡◌, ℕ, ◌<◌, nat_eq, List, length, map, get_or, None, Some, if◌then◌else◌, sym, ap, ◌∙◌, inl, inr, refl, arith}
use Rattle.std.specs.Prelude.{slice_set}
use Rattle.std.proofs.Math.ListN.{get_or-map}
use Rattle.std.proofs.lemmas.Bool.{cases_Bool, eqb-true, eqb-false, ne_eqb}
use Rattle.std.proofs.lemmas.Grind.{get_or-set_at}
use Rattle.std.proofs.lemmas.List.{get_or-set_other}
use Rattle.sc_papers.specs.SchoolPositions.{position_told}
use Rattle.sc_papers.specs.declared.school_positions.TheConstants.{NO_POSITION}

-- a number's position is what is kept of it
pub told-at : (kept : List ℕ) (s : ℕ) → get_or (map position_told kept) s None ≡ position_told (get_or kept s NO_POSITION)
told-at kept s = get_or-map position_told kept s NO_POSITION

-- it stays where that does
pub told-same : (before after : List ℕ) (s : ℕ) → get_or after s NO_POSITION ≡ get_or before s NO_POSITION
    → get_or (map position_told after) s None ≡ get_or (map position_told before) s None
told-same before after s same = told-at after s ∙ ap position_told same ∙ sym (told-at before s)

-- and is the one that was put there
pub told-put : (kept : List ℕ) (school position s : ℕ) → school < length kept → position < NO_POSITION
    → get_or (map position_told (slice_set kept school position)) s None ≡ (if nat_eq s school then Some position else get_or (map position_told kept) s None)
told-put kept school position s within low = elim (cases_Bool (nat_eq s school)) [
  | inl same ↦ told-at (slice_set kept school position) s
      ∙ ap position_told (get_or-set_at kept school s position NO_POSITION (eqb-true s school same) within)
      ∙ rw (same, ne_eqb position NO_POSITION (λ is. omega (arith, is, low))) refl
  | inr other ↦ told-at (slice_set kept school position) s
      ∙ ap position_told (get_or-set_other kept school s position NO_POSITION (λ is. eqb-false s school other is))
      ∙ rw other (sym (told-at kept s))
]
