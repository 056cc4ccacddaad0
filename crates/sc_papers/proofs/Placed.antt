-- Choices that go by where their schools stand.
use Rattle.std.proofs.Common.{◌≡◌, ℕ, ◌<◌, ◌==◌, nat_eq, true, List, [], ◌∷◌, ◌++◌, length, map, position, replicate, get_or, Some, None, refl, sym, ap, ◌∙◌, inl, inr, arith}
use Rattle.std.specs.Prelude.{slice_index_or, slice_set}
use Rattle.std.specs.List.{list_any, AllPass}
use Rattle.std.proofs.lemmas.Bool.{cases_Bool, cases_lt, cases_order, eq-eqb, ne_eqb}
use Rattle.std.proofs.lemmas.Grind.{get_or-set_at}
use Rattle.std.proofs.lemmas.List.{get_or-replicate, get_or-set_other, get_or_past, length-map, length-replicate, map-append}
use Rattle.std.proofs.lemmas.List.Folds.{list_any-append}
use Rattle.std.proofs.lemmas.List.Elements.{All-cons, All-head, All-nil, All-tail}
use Rattle.std.proofs.lemmas.Option.{get_or_from_slice_get, slice_get-get_or}
use Rattle.std.proofs.Math.Bool.{or-false, or-true}
use Rattle.sc_papers.specs.Market.{Market, is_school, schools_of}
use Rattle.sc_papers.specs.Placed.{schools_at, AreLastTurns, AreOfSchools}
use Rattle.sc_papers.specs.Verdict.{first_repeat}
use Rattle.sc_papers.specs.WellFormed.{WellFormed}
use Rattle.sc_papers.proofs.ChoicePositions.{any-there}
use Rattle.sc_papers.proofs.Repeats.{apart}
use Rattle.sc_papers.proofs.Positions.{among-school, position-among, position-at, position-there, school-place_position}

-- one choice more
pub schools_at-push : (schools positions : List ℕ) (p s : ℕ) → position (nat_eq s) schools ≡ Some p
    → schools_at schools (positions ++ p ∷ []) ≡ schools_at schools positions ++ s ∷ []
schools_at-push schools positions p s found =
    map-append (λ q. slice_index_or schools q 0) positions (p ∷ [])
    ∙ ap (λ x. schools_at schools positions ++ x ∷ []) (get_or_from_slice_get schools p s 0 (position-there schools s p found))

-- positions of schools lead back to the schools
pub places-back : (m : Market) (list places : List ℕ) → map Some places ≡ map (λ s. position (nat_eq s) (schools_of m)) list → schools_at (schools_of m) places ≡ list
places-back m [] [] are = refl
places-back m [] (p ∷ places) are = cc
places-back m (s ∷ list) [] are = cc
places-back m (s ∷ list) (p ∷ places) are =
    let here : Some p ≡ position (nat_eq s) (schools_of m) = cc in
    let rest : map Some places ≡ map (λ x. position (nat_eq x) (schools_of m)) list = cc in
    λ t. get_or_from_slice_get (schools_of m) p s 0 (position-there (schools_of m) s p (sym here)) t ∷ places-back m list places rest t

-- and each of them is one
pub places-low : (m : Market) (list places : List ℕ) → map Some places ≡ map (λ s. position (nat_eq s) (schools_of m)) list → AreOfSchools m places
places-low m [] [] are = λ k d low. absurd (omega (arith, low))
places-low m [] (p ∷ places) are = cc
places-low m (s ∷ list) [] are = cc
places-low m (s ∷ list) (p ∷ places) are =
    let here : Some p ≡ position (nat_eq s) (schools_of m) = cc in
    let rest : map Some places ≡ map (λ x. position (nat_eq x) (schools_of m)) list = cc in
    All-cons (λ x. x < length m.schools) p places
    (omega (arith, (position-at (schools_of m) s p (sym here)).0, length-map m.schools (λ e. e.0))) (places-low m list places rest)

-- and schools at positions stand at those
pub placed-there : (m : Market) → WellFormed m → (positions : List ℕ) → AreOfSchools m positions
    → map Some positions ≡ map (λ s. position (nat_eq s) (schools_of m)) (schools_at (schools_of m) positions)
placed-there m well [] within = refl
placed-there m well (p ∷ positions) within =
    let low : p < length (schools_of m) = omega (arith, All-head (λ x. x < length m.schools) p positions within, length-map m.schools (λ e. e.0)) in
    λ t. sym (school-place_position m well p (slice_index_or (schools_of m) p 0) (slice_get-get_or (schools_of m) p 0 low)) t
    ∷ placed-there m well positions (All-tail (λ x. x < length m.schools) p positions within) t

-- so they are schools of the papers
pub placed-known : (m : Market) (schools positions : List ℕ) → map Some positions ≡ map (λ s. position (nat_eq s) (schools_of m)) schools
    → AllPass (is_school m) schools
placed-known m [] positions are = All-nil (λ s. is_school m s ≡ true)
placed-known m (s ∷ schools) [] are = cc
placed-known m (s ∷ schools) (p ∷ positions) are =
    let here : Some p ≡ position (nat_eq s) (schools_of m) = cc in
    let rest : map Some positions ≡ map (λ x. position (nat_eq x) (schools_of m)) schools = cc in
    All-cons (λ x. is_school m x ≡ true) s schools (among-school m s (position-among (schools_of m) s p (sym here))) (placed-known m schools positions rest)

-- of which none comes twice where no position does
placed-differ : (m : Market) (earlier positions before schools : List ℕ)
    → map Some earlier ≡ map (λ s. position (nat_eq s) (schools_of m)) before → map Some positions ≡ map (λ s. position (nat_eq s) (schools_of m)) schools
    → first_repeat earlier positions ≡ None → first_repeat before schools ≡ None
placed-differ m earlier positions before [] early are none = refl
placed-differ m earlier [] before (s ∷ schools) early are none = cc
placed-differ m earlier (p ∷ positions) before (s ∷ schools) early are none =
    let here : Some p ≡ position (nat_eq s) (schools_of m) = cc in
    let rest : map Some positions ≡ map (λ x. position (nat_eq x) (schools_of m)) schools = cc in
    elim (cases_Bool (list_any (λ q. q == p) earlier)) [
      | inl met ↦ let some : Some p ≡ None = rw met at none in cc
      | inr new ↦
          rw (sym (any-there m before earlier s p early (sym here)) ∙ new) (placed-differ m (earlier ++ p ∷ []) positions (before ++ s ∷ []) schools
          (map-append Some earlier (p ∷ []) ∙ (λ t. early t ++ here t ∷ []) ∙ sym (map-append (λ x. position (nat_eq x) (schools_of m)) before (s ∷ [])))
          rest (rw new at none))
    ]

pub placed-once : (m : Market) (positions schools : List ℕ) → map Some positions ≡ map (λ s. position (nat_eq s) (schools_of m)) schools
    → first_repeat [] positions ≡ None → first_repeat [] schools ≡ None
placed-once m positions schools are none = placed-differ m [] positions [] schools refl are none

-- no list has had the turn 1
pub turns-none : (n : ℕ) → AreLastTurns (replicate n 0) 1 []
turns-none n = record {
  these = λ p low. rw (zero p) refl;
  none_later = λ p. omega (arith, zero p);
}
  where
    zero : (p : ℕ) → ◌≡◌ {A = ℕ} (get_or (replicate n 0) p 0) 0
    zero p = elim (cases_lt p n) [
      | inl low ↦ get_or-replicate n p 0 0 low
      | inr past ↦ get_or_past (replicate n 0) p 0 (let none : ℕ = 0 in omega (arith, past, length-replicate n none))
    ]

-- and then what was chosen
pub turns-push : (turns chosen : List ℕ) (turn x : ℕ) → x < length turns → AreLastTurns turns turn chosen → AreLastTurns (slice_set turns x turn) turn (chosen ++ x ∷ [])
turns-push turns chosen turn x within are = record {
  these = λ p low. elim (cases_order p x) [
    | inl same ↦ ap (λ (t : ℕ). t == turn) (get_or-set_at turns x p turn 0 same within) ∙ eq-eqb turn turn refl
        ∙ sym (list_any-append (λ q. q == p) chosen (x ∷ []) ∙ rw (same, eq-eqb x x refl) (or-true (list_any (λ q. q == x) chosen)))
    | inr other ↦ ap (λ (t : ℕ). t == turn) (get_or-set_other turns x p turn 0 (apart p x other)) ∙ are.these p low
        ∙ sym (list_any-append (λ q. q == p) chosen (x ∷ []) ∙ rw (ne_eqb x p (λ same. apart p x other (sym same))) (or-false (list_any (λ q. q == p) chosen)))
  ];
  none_later = λ p. elim (cases_order p x) [
    | inl same ↦ omega (arith, get_or-set_at turns x p turn 0 same within)
    | inr other ↦ omega (arith, get_or-set_other turns x p turn 0 (apart p x other), are.none_later p)
  ];
}
