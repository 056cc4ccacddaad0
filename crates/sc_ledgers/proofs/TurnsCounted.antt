-- How the proposals of turns are counted, and that the count is not too large.
use Rattle.std.proofs.Common.{◌≡◌, inl, inr, refl, ap, sym, subst, ◌∙◌, ℕ, zero, suc, ◌+◌, ◌*◌, ◌^◌, ◌≤◌, ◌<◌, ◌==◌, nat_eq, Bool, false, List, [], ◌∷◌, length, Option, Some, None, is_some, position, slice_get, get_or, take, arith}
use Rattle.std.specs.Option.{option_and_then, option_map_or}
use Rattle.std.proofs.lemmas.Bool.{cases_Bool, cond-true, cond-false, true≢false}
use Rattle.std.proofs.lemmas.List.{get_or_default}
use Rattle.std.proofs.lemmas.List.Concat.{length-flat_map}
use Rattle.std.proofs.lemmas.List.Sums.{sum_by-le, sum_by_more, sum_by_more_le}
use Rattle.std.proofs.lemmas.Map.Entries.{length-keys_of}
use Rattle.sc_papers.specs.Market.{Market, choices_of, student_at, student_of, students_of}
use Rattle.sc_papers.specs.WellFormed.{WellFormed, WithinLimits}
use Rattle.sc_papers.specs.Progress.{all_choices}
use Rattle.sc_papers.specs.Restriction.{joined, IsSegmented}
use Rattle.sc_papers.specs.declared.limits.TheConstants.{LONGEST_LIST, MOST_STUDENTS}
use Rattle.sc_papers.specs.declared.records.Student.{Student}
use Rattle.sc_papers.specs.declared.rejection.Rejection.{Rejection}
use Rattle.sc_papers.proofs.Cutting.{segments-settled}
use Rattle.sc_papers.proofs.Hands.{student-there}
use Rattle.sc_papers.proofs.Keys.{found-by_position}
use Rattle.sc_papers.proofs.Progress.{log-bounded}
use Rattle.sc_papers.proofs.Students.{choices-short}
use Rattle.sc_checkpoint.specs.Positions.{LieBelow}
use Rattle.sc_ledgers.specs.Proposals.{choice_after, ends_placed, made_at, made_in}
use Rattle.sc_ledgers.specs.Renewed.{AreTurnsOf}

-- one who is not in the papers has no choices
unknown-choices : (m : Market) (i : ℕ) → position (nat_eq i) (students_of m) ≡ None → choices_of m i ≡ []
unfolding choices_of
unknown-choices m i none = go (student_of m i) (found-by_position m.students i None none)
  where
    go : (found : Option Student) → is_some found ≡ false → option_map_or (λ student. student.choices) found [] ≡ []
    go None unknown = refl
    go (Some student) unknown = absurd (true≢false unknown)

pub unknown-after : (m : Market) (e : Rejection) → position (nat_eq e.student) (students_of m) ≡ None → choice_after m e ≡ None
unfolding choice_after
unknown-after m e none = ap (λ xs. option_and_then (λ rank. slice_get xs (rank + 1)) (position (λ s. s == e.school) xs)) (unknown-choices m e.student none)

-- the choice after the school, by the student's position
pub after-at : (m : Market) (e : Rejection) (at : ℕ) (rank : Option ℕ) → position (nat_eq e.student) (students_of m) ≡ Some at → rank ≡ position (λ s. s == e.school) (choices_of m (student_at m at)) → choice_after m e ≡ option_and_then (λ r. slice_get (choices_of m (student_at m at)) (r + 1)) rank
unfolding choice_after
after-at m e at rank there found =
    ap (λ i. option_and_then (λ r. slice_get (choices_of m i) (r + 1)) (position (λ s. s == e.school) (choices_of m i))) (sym (student-there m e.student at there))
    ∙ ap (option_and_then (λ r. slice_get (choices_of m (student_at m at)) (r + 1))) (sym found)

-- the proposals of one turn more
pub made-more : (m : Market) (segments : List (List Rejection)) (positions : List ℕ) (k : ℕ) → k < length positions → made_at m segments (take (k + 1) positions) ≡ made_at m segments (take k positions) + made_in m (get_or segments (get_or positions k 0) [])
unfolding made_at
made-more m segments positions k low = sum_by_more (λ at. made_in m (get_or segments at [])) positions k 0 low

-- the papers have no more choices than their limits allow
choices-few : (m : Market) → WithinLimits m → all_choices m ≤ MOST_STUDENTS * LONGEST_LIST
unfolding all_choices
choices-few m within =
    omega (
      arith,
      sum_by-le (λ i. length (choices_of m i)) LONGEST_LIST (students_of m) (λ k d low. choices-short m within (get_or (students_of m) k d)),
      within.students,
      length-keys_of m.students,
    )

module _ (m : Market) (segments : List (List Rejection)) (well : WellFormed m) (within : WithinLimits m) (segmented : IsSegmented m segments) where
  -- so no segment is longer
  segment-short : (k : ℕ) → k < length segments → length (get_or segments k []) ≤ MOST_STUDENTS * LONGEST_LIST
  segment-short k low =
      omega (
        arith,
        sum_by_more_le (λ segment. length segment) segments k [] low,
        length-flat_map (λ segment. segment) segments,
        log-bounded m well (joined segments) (segments-settled m segments segmented).valid,
        choices-few m within,
      )

  made-short : (k : ℕ) → k < length segments → made_in m (get_or segments k []) ≤ MOST_STUDENTS * LONGEST_LIST + 1
  made-short k low = elim (cases_Bool (ends_placed m (get_or segments k []))) [
    | inl placed ↦ omega (arith, segment-short k low, cond-true {A = ℕ} (ends_placed m (get_or segments k [])) 1 0 placed)
    | inr unplaced ↦ omega (arith, segment-short k low, cond-false {A = ℕ} (ends_placed m (get_or segments k [])) 1 0 unplaced)
  ]

  made-few : (positions : List ℕ) → LieBelow (length segments) positions → made_at m segments positions ≤ length positions * (MOST_STUDENTS * LONGEST_LIST + 1)
  unfolding made_at
  made-few positions below =
      sum_by-le (λ at. made_in m (get_or segments at [])) (MOST_STUDENTS * LONGEST_LIST + 1) positions
      (λ k d low. made-short (get_or positions k d) (subst (λ at. at < length segments) (get_or_default positions k 0 d low) (below k low)))

  -- the proposals of the turns up to one, and of that one, can be counted
  pub made-within : (positions : List ℕ) (k : ℕ) → LieBelow (length segments) positions → length positions ≤ MOST_STUDENTS → k < length positions → made_at m segments (take k positions) + made_in m (get_or segments (get_or positions k 0) []) < 2 ^ 64
  unfolding made_at
  made-within positions k below few low =
      omega (
        arith,
        sum_by_more_le (λ at. made_in m (get_or segments at [])) positions k 0 low,
        made-few positions below,
        few,
      )

-- the turns of those who pass, from one on, are below the end, and no more than there are up to it
pub turns-within : (m : Market) (test : ℕ → Bool) (from end : ℕ) (positions : List ℕ) → AreTurnsOf m test from end positions → LieBelow end positions
turns-within m test from end [] turns k low = absurd (omega (arith, low))
turns-within m test from end (p ∷ positions) turns zero low = turns.1
turns-within m test from end (p ∷ positions) turns (suc k) low = turns-within m test (p + 1) end positions turns.4 k (omega (arith, low))

pub turns-few : (m : Market) (test : ℕ → Bool) (from end : ℕ) (positions : List ℕ) → AreTurnsOf m test from end positions → from ≤ end → from + length positions ≤ end
turns-few m test from end [] turns within = omega (arith, within)
turns-few m test from end (p ∷ positions) (start, below, none, passes, later) within = omega (arith, start, turns-few m test (p + 1) end positions later (omega (arith, below)))
