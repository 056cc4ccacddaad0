-- Schools by their positions, and their labels.
use Rattle.std.proofs.Common.{◌≡◌, inl, inr, refl, ap, sym, ◌∙◌, ℕ, ◌<◌, List, [], length, nat_eq, slice_get, get_or, position, Option, Some, None, arith}
use Rattle.std.specs.List.{IsDistinct}
use Rattle.std.proofs.lemmas.Bool.{cases_lt, eq-eqb, eqb-true, false≢true}
use Rattle.std.proofs.lemmas.List.{length-map}
use Rattle.std.proofs.lemmas.List.Quantifiers.{position-Some}
use Rattle.sc_ledgers.proofs.Coursing.{position-none}
use Rattle.std.proofs.lemmas.Map.Keys.{apart_from_distinct}
use Rattle.std.proofs.lemmas.Option.{get_or_from_slice_get, slice_get-get_or, slice_get_within}
use Rattle.sc_papers.specs.Market.{Market, schools_of}
use Rattle.sc_papers.specs.WellFormed.{WellFormed}
use Rattle.sc_ledgers.specs.Course.{labels_at, labels_of}
use Rattle.sc_ledgers.specs.declared.ledger.Label.{Label}

-- what stands at a place of a list without repeats has that position
pub position-back : (xs : List ℕ) (p s : ℕ) → IsDistinct nat_eq xs → slice_get xs p ≡ Some s → position (nat_eq s) xs ≡ Some p
position-back xs p s distinct there = go (position (nat_eq s) xs) refl
  where
    here : (d : ℕ) → get_or xs p d ≡ s
    here d = get_or_from_slice_get xs p s d there

    go : (found : Option ℕ) → position (nat_eq s) xs ≡ found → position (nat_eq s) xs ≡ Some p
    go None is = absurd (false≢true (sym (position-none (nat_eq s) xs p s is there) ∙ eq-eqb s s refl))
    go (Some q) is =
        let (low, passes, first) = position-Some (nat_eq s) xs q s is in
        is ∙ ap Some (elim (cases_lt q p) [
          | inl before ↦ absurd (false≢true (sym (apart_from_distinct nat_eq xs q p s distinct before (slice_get_within xs p s there)) ∙ eq-eqb (get_or xs q s) (get_or xs p s) (sym (eqb-true s (get_or xs q s) passes) ∙ sym (here s))))
          | inr after ↦ elim (cases_lt p q) [
            | inl before ↦ absurd (false≢true (sym (first p before) ∙ eq-eqb s (get_or xs p s) (sym (here s))))
            | inr same ↦ omega (arith, after, same)
          ]
        ])

-- the labels at a position are those of the school there
pub labels-there : (m : Market) → WellFormed m → (p : ℕ) → p < length m.schools → (s : ℕ) × ((ledgers : List (List Label)) → labels_of m ledgers s ≡ get_or ledgers p [])
labels-there m well p low =
    let within : p < length (schools_of m) = omega (arith, low, length-map m.schools (λ e. e.0)) in
    let s : ℕ = get_or (schools_of m) p 0 in
    (s, λ ledgers. ap (labels_at ledgers) (position-back (schools_of m) p s well.schools_differ (slice_get-get_or (schools_of m) p 0 within)))
