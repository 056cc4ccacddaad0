-- The students enter, the last one first.
use Rattle.std.proofs.Common.{◌≡◌, refl, ap, sym, ◌∙◌, ℕ, suc, ◌+◌, ◌<◌, ◌≤◌, ◌==◌, nat_eq, Bool, true, false, ◌||◌, List, length, get_or, drop, Some, slice_get, add-one, length-drop, arith}
use Rattle.std.specs.List.{list_any}
use Rattle.std.proofs.Math.Seq.{drop-cons}
use Rattle.std.proofs.lemmas.Bool.{false≢true, eqb-true, eq-eqb, false_from_ne_true}
use Rattle.std.proofs.lemmas.Option.{slice_get_within, get_or_from_slice_get}
use Rattle.std.proofs.lemmas.List.{get_or-drop, get_or_default}
use Rattle.std.proofs.lemmas.List.Folds.{list_any_none}
use Rattle.std.proofs.lemmas.Map.Keys.{apart_from_distinct}
use Rattle.sc_papers.specs.Market.{Market, students_of}
use Rattle.sc_engine.specs.RoundView.{RoundView, Fits, has_entered, Enters}

-- the students from the k-th on have entered, and nobody else
pub record EnteredFrom (m : Market) (r : RoundView) (spent : Bool) (k : ℕ) : Type 0 where
  pub ready : spent ≡ false
  pub low : k ≤ length (students_of m)
  pub fits : Fits m r
  pub entered : (i : ℕ) → has_entered m r.ranks i ≡ list_any (nat_eq i) (drop k (students_of m))

or-comm : (a b : Bool) → (a || b) ≡ (b || a)
or-comm true true = refl
or-comm true false = refl
or-comm false true = refl
or-comm false false = refl

pub entered-before : (m : Market) (old new : RoundView) (spent spent' : Bool) (k i : ℕ) → slice_get (students_of m) k ≡ Some i → EnteredFrom m old spent (k + 1) → Enters m old new i → spent' ≡ false → EnteredFrom m new spent' k
entered-before m old new spent spent' k i here before enters ready = record {
  ready = ready;
  low = omega (arith, before.low);
  fits = enters.fits;
  entered = λ j.
      enters.entered j ∙ ap (λ b. b || j == i) (before.entered j) ∙ or-comm (list_any (nat_eq j) (drop (k + 1) (students_of m))) (j == i)
      ∙ ap (λ n. (j == i) || list_any (nat_eq j) (drop n (students_of m))) (add-one k)
      ∙ ap (λ x. nat_eq j x || list_any (nat_eq j) (drop (suc k) (students_of m))) (sym (get_or_from_slice_get (students_of m) k i i here))
      ∙ sym (ap (list_any (nat_eq j)) (drop-cons (students_of m) k i (slice_get_within (students_of m) k i here)));
}

-- the one before them has not entered
pub absent-before : (m : Market) (r : RoundView) (spent : Bool) (k i : ℕ) → slice_get (students_of m) k ≡ Some i → EnteredFrom m r spent (k + 1) → has_entered m r.ranks i ≡ false
absent-before m r spent k i here before =
    before.entered i
    ∙ list_any_none (nat_eq i) (drop (k + 1) (students_of m)) (λ j d low.
    let xs : List ℕ = students_of m in
    let within : (k + 1) + j < length xs = omega (arith, low, length-drop (k + 1) xs) in
    let apart = apart_from_distinct nat_eq xs k ((k + 1) + j) i before.fits.well_formed.students_differ (omega arith) within in
    false_from_ne_true (nat_eq i (get_or (drop (k + 1) xs) j d)) (λ same.
    let is : i ≡ get_or xs ((k + 1) + j) d = eqb-true i (get_or (drop (k + 1) xs) j d) same ∙ get_or-drop (k + 1) xs j d in
    false≢true (sym apart ∙ eq-eqb (get_or xs k i) (get_or xs ((k + 1) + j) i) (get_or_from_slice_get xs k i i here ∙ is ∙ get_or_default xs ((k + 1) + j) d i within))))
