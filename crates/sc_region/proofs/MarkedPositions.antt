-- The positions that are marked.
use Rattle.std.proofs.Common.{◌≡◌, ◌↔◌, sym, ◌∙◌, ℕ, ◌<◌, nat_eq, Bool, true, false, List, length, get_or, Contains, arith}
use Rattle.std.specs.List.{list_any}
use Rattle.std.proofs.lemmas.Bool.{eqb-true}
use Rattle.std.proofs.lemmas.Cmp.{nat_eq_equiv}
use Rattle.std.proofs.lemmas.List.{get_or_past}
use Rattle.std.proofs.lemmas.List.FromFn.{get_or-map-range_with_len, length-map-range_with_len}
use Rattle.std.proofs.lemmas.Map.Views.{Contains-from_any, list_any-from_Contains}
use Rattle.sc_region.specs.Marks.{marks_at, AreRisingBelow}

-- a marked position is that of one of those who have marks
pub below-marked : (marks : List Bool) (p : ℕ) → get_or marks p false ≡ true → p < length marks
below-marked marks p its = grind (arith, its, get_or_past marks p false)

-- the mark at a position that comes within the count
mark-at : (count : ℕ) (positions : List ℕ) (p : ℕ) → p < count → get_or (marks_at count positions) p false ≡ list_any (nat_eq p) positions
mark-at count positions p low = get_or-map-range_with_len (λ q. list_any (nat_eq q) positions) 0 count p p false low (omega arith)

-- those positions are marked, and no others
pub marks-say : (count : ℕ) (positions : List ℕ) → AreRisingBelow count positions → (p : ℕ) → (Contains positions p ↔ (get_or (marks_at count positions) p false ≡ true))
marks-say count positions below p = (
  (λ among. mark-at count positions p (below.below p among) ∙ list_any-from_Contains nat_eq_equiv p positions among),
  (λ its.
      let low : p < length (marks_at count positions) = below-marked (marks_at count positions) p its in
      Contains-from_any eqb-true p positions (sym (mark-at count positions p (omega (arith, low, length-map-range_with_len (λ q. list_any (nat_eq q) positions) 0 count))) ∙ its)),
)
