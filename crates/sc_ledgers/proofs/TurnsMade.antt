-- The proposals of the turns of a region, counted turn by turn, come to its rejections and its places.
use Rattle.std.proofs.Common.{◌≡◌, inl, inr, refl, ap, sym, subst, ◌∙◌, ℕ, zero, suc, ◌+◌, ◌-◌, ◌≤◌, ◌<◌, Bool, true, false, cond, List, [], ◌∷◌, ◌++◌, length, Some, drop, get_or, slice_get, take, drop-cons, length-append, arith}
use Rattle.std.proofs.lemmas.Bool.{cases_Bool, cases_order, cond-true, cond-false, not_from_true, false≢true}
use Rattle.std.proofs.lemmas.List.{take_all}
use Rattle.std.proofs.lemmas.List.Sums.{sum_by-cons}
use Rattle.std.proofs.lemmas.Option.{slice_get-get_or}
use Rattle.std.proofs.Math.Seq.{drop-length}
use Rattle.sc_papers.specs.Market.{Market, student_at, students_of}
use Rattle.sc_papers.specs.WellFormed.{WellFormed}
use Rattle.sc_papers.specs.Log.{matching_of, IsSettled}
use Rattle.sc_papers.specs.Restriction.{cut, joined, outside, AreApart, IsSegmented}
use Rattle.sc_papers.specs.declared.rejection.Rejection.{Rejection}
use Rattle.sc_papers.proofs.Cutting.{cut-all}
use Rattle.sc_papers.proofs.Standings.{valid-rest}
use Rattle.sc_weave.specs.Weaving.{part_of}
use Rattle.sc_weave.proofs.Counts.{apart-outside}
use Rattle.sc_weave.proofs.Part.{segment-fails}
use Rattle.sc_ledgers.specs.Proposals.{made_at, made_in, placed_of}
use Rattle.sc_ledgers.specs.Renewed.{AreTurnsOf}
use Rattle.sc_ledgers.proofs.Staying.{log-after}
use Rattle.sc_ledgers.proofs.TurnPlaces.{no-places, one-places}

-- the places of those who pass after the first k turns, and their rejections in the turns from k on
abbrev placed_at : Market → (ℕ → Bool) → List (List Rejection) → ℕ → ℕ
placed_at m test segments k = placed_of m test (matching_of (cut m k) (joined (take k segments)))

abbrev left_from : Market → (ℕ → Bool) → List (List Rejection) → ℕ → ℕ
left_from m test segments k = length (joined (part_of (drop k (students_of m)) test (drop k segments)))

-- the proposals of the turns at these positions are those of all who pass from k on
abbrev CountsFrom : Market → (ℕ → Bool) → List (List Rejection) → ℕ → List ℕ → Type 0
CountsFrom m test segments k positions = made_at m segments positions + placed_at m test segments k ≡ left_from m test segments k + placed_at m test segments (length segments)

-- the proposals of one turn more
made-cons : (m : Market) (segments : List (List Rejection)) (at : ℕ) (positions : List ℕ) → made_at m segments (at ∷ positions) ≡ made_in m (get_or segments at []) + made_at m segments positions
unfolding made_at
made-cons m segments at positions = sum_by-cons (λ p. made_in m (get_or segments p [])) at positions

made-none : (m : Market) (segments : List (List Rejection)) → made_at m segments [] ≡ 0
unfolding made_at
made-none m segments = refl

-- a list from a place on
drop-next : {X : Type 0} (xs : List X) (k : ℕ) (d : X) → k < length xs → drop k xs ≡ get_or xs k d ∷ drop (k + 1) xs
drop-next xs k d low =
    let next : suc k ≡ k + 1 = omega arith in
    drop-cons xs k d low ∙ ap (λ n. get_or xs k d ∷ drop n xs) next

module _ (m : Market) (test : ℕ → Bool) (segments : List (List Rejection)) (well : WellFormed m) (apart : AreApart m test) (segmented : IsSegmented m segments) where
  -- the student and the segment of a turn
  student-here : (k : ℕ) → k < length segments → slice_get (students_of m) k ≡ Some (student_at m k)
  student-here k low = slice_get-get_or (students_of m) k 0 (omega (arith, low, segmented.one_each))

  segment-here : (k : ℕ) → k < length segments → slice_get segments k ≡ Some (get_or segments k [])
  segment-here k low = slice_get-get_or segments k [] low

  -- the rejections from a turn on are those of the later turns, and those of the turn itself if its student passes
  left-turn : (k : ℕ) → k < length segments → left_from m test segments k ≡ length (joined (cond (test (student_at m k)) (get_or segments k [] ∷ part_of (drop (k + 1) (students_of m)) test (drop (k + 1) segments)) (part_of (drop (k + 1) (students_of m)) test (drop (k + 1) segments))))
  left-turn k low =
      ap (λ xs. length (joined (part_of xs test (drop k segments)))) (drop-next (students_of m) k 0 (omega (arith, low, segmented.one_each)))
      ∙ ap (λ list. length (joined (part_of (student_at m k ∷ drop (k + 1) (students_of m)) test list))) (drop-next segments k [] low)

  left-inside : (k : ℕ) → k < length segments → test (student_at m k) ≡ true → left_from m test segments k ≡ length (get_or segments k []) + left_from m test segments (k + 1)
  left-inside k low inside =
      left-turn k low
      ∙ ap (λ list. length (joined list)) (cond-true (test (student_at m k)) (get_or segments k [] ∷ part_of (drop (k + 1) (students_of m)) test (drop (k + 1) segments)) (part_of (drop (k + 1) (students_of m)) test (drop (k + 1) segments)) inside)
      ∙ length-append (get_or segments k []) (joined (part_of (drop (k + 1) (students_of m)) test (drop (k + 1) segments)))

  left-outside : (k : ℕ) → k < length segments → test (student_at m k) ≡ false → left_from m test segments k ≡ left_from m test segments (k + 1)
  left-outside k low fails =
      left-turn k low
      ∙ ap (λ list. length (joined list)) (cond-false (test (student_at m k)) (get_or segments k [] ∷ part_of (drop (k + 1) (students_of m)) test (drop (k + 1) segments)) (part_of (drop (k + 1) (students_of m)) test (drop (k + 1) segments)) fails)

  left-none : left_from m test segments (length segments) ≡ 0
  left-none =
      ap (λ xs. length (joined (part_of xs test (drop (length segments) segments)))) (ap (λ n. drop n (students_of m)) segmented.one_each ∙ drop-length (students_of m))

  turn-inside : (k : ℕ) → k < length segments → test (student_at m k) ≡ true → made_in m (get_or segments k []) + placed_at m test segments k ≡ length (get_or segments k []) + placed_at m test segments (k + 1)
  turn-inside k low inside =
      let here = student-here k low in
      let its = segment-here k low in
      let after : joined (take (k + 1) segments) ≡ joined (take k segments) ++ get_or segments k [] = log-after segments k (get_or segments k []) its in
      let settled : IsSettled (cut m (k + 1)) (joined (take k segments) ++ get_or segments k []) = subst (IsSettled (cut m (k + 1))) after (segmented.settled (k + 1) (omega (arith, low))) in
      one-places m well k (student_at m k) here test (joined (take k segments)) (get_or segments k []) (segmented.settled k (omega (arith, low)))
      (valid-rest (cut m (k + 1)) [] (joined (take k segments)) (get_or segments k []) settled.valid) inside
      (segment-fails m (outside test) segments k (student_at m k) (get_or segments k []) well (apart-outside m test apart) segmented here its (not_from_true (test (student_at m k)) inside))
      ∙ ap (λ log. length (get_or segments k []) + placed_of m test (matching_of (cut m (k + 1)) log)) (sym after)

  turn-outside : (k : ℕ) → k < length segments → test (student_at m k) ≡ false → placed_at m test segments (k + 1) ≡ placed_at m test segments k
  turn-outside k low fails =
      let here = student-here k low in
      let its = segment-here k low in
      ap (λ log. placed_of m test (matching_of (cut m (k + 1)) log)) (log-after segments k (get_or segments k []) its)
      ∙ no-places m well k (student_at m k) here test (joined (take k segments)) (get_or segments k []) fails
      (segment-fails m test segments k (student_at m k) (get_or segments k []) well apart segmented here its fails)

  -- the turns from one on are those from the next one on, where its student does not pass
  turns-later : (k end : ℕ) (positions : List ℕ) → test (student_at m k) ≡ false → AreTurnsOf m test k end positions → AreTurnsOf m test (k + 1) end positions
  turns-later k end [] fails none = λ t i from below here. none t i (omega (arith, from)) below here
  turns-later k end (p ∷ positions) fails (from, below, none, passes, later) =
      let apart : p ≡ k → ⊥ = λ same. false≢true (sym fails ∙ ap (λ t. test (student_at m t)) (sym same) ∙ passes) in
      (after p apart from, below, λ t i start before here. none t i (omega (arith, start)) before here, passes, later)
    where
      after : (p : ℕ) → (p ≡ k → ⊥) → k ≤ p → k + 1 ≤ p
      after p apart from = elim (cases_order p k) [ inl same ↦ absurd (apart same) | inr (inl less) ↦ absurd (omega (arith, less, from)) | inr (inr more) ↦ omega (arith, more) ]

  -- and else it is the first of them
  turns-first : (k end p : ℕ) (positions : List ℕ) → slice_get (students_of m) k ≡ Some (student_at m k) → test (student_at m k) ≡ true → AreTurnsOf m test k end (p ∷ positions) → p ≡ k
  turns-first k end p positions here inside (from, below, none, passes, later) =
      elim (cases_order p k) [
        | inl same ↦ same
        | inr (inl less) ↦ absurd (omega (arith, less, from))
        | inr (inr more) ↦ absurd (false≢true (sym (none k (student_at m k) (omega arith) more here) ∙ inside))
      ]

  -- one turn before the end more
  counts-outside : (k : ℕ) (positions : List ℕ) → k < length segments → test (student_at m k) ≡ false → CountsFrom m test segments (k + 1) positions → CountsFrom m test segments k positions
  counts-outside k positions low fails counts = omega (arith, counts, turn-outside k low fails, left-outside k low fails)

  counts-inside : (k : ℕ) (positions : List ℕ) → k < length segments → test (student_at m k) ≡ true → CountsFrom m test segments (k + 1) positions → CountsFrom m test segments k (k ∷ positions)
  counts-inside k positions low inside counts = omega (arith, counts, made-cons m segments k positions, turn-inside k low inside, left-inside k low inside)

  counts-turn : (k : ℕ) (positions : List ℕ) → k < length segments → ((later : List ℕ) → AreTurnsOf m test (k + 1) (length segments) later → CountsFrom m test segments (k + 1) later) → AreTurnsOf m test k (length segments) positions → CountsFrom m test segments k positions
  counts-turn k positions low later turns =
      elim (cases_Bool (test (student_at m k))) [
        | inl inside ↦ go positions inside turns
        | inr fails ↦ counts-outside k positions low fails (later positions (turns-later k (length segments) positions fails turns))
      ]
    where
      go : (positions : List ℕ) → test (student_at m k) ≡ true → AreTurnsOf m test k (length segments) positions → CountsFrom m test segments k positions
      go [] inside none = absurd (false≢true (sym (none k (student_at m k) (omega arith) low (student-here k low)) ∙ inside))
      go (p ∷ positions) inside turns =
          let first : p ≡ k = turns-first k (length segments) p positions (student-here k low) inside turns in
          subst (λ t. CountsFrom m test segments k (t ∷ positions)) (sym first)
          (counts-inside k positions low inside (later positions (subst (λ t. AreTurnsOf m test (t + 1) (length segments) positions) first turns.4)))

  -- so many turns before the end
  counts-end : (positions : List ℕ) → AreTurnsOf m test (length segments) (length segments) positions → CountsFrom m test segments (length segments) positions
  counts-end [] turns = omega (arith, made-none m segments, left-none)
  counts-end (p ∷ positions) turns = absurd (omega (arith, turns.0, turns.1))

  counts-from : (turns k : ℕ) (positions : List ℕ) → k + turns ≡ length segments → AreTurnsOf m test k (length segments) positions → CountsFrom m test segments k positions
  counts-from zero k positions end are =
      let last : length segments ≡ k = omega (arith, end) in
      subst (λ n. AreTurnsOf m test n (length segments) positions → CountsFrom m test segments n positions) last (counts-end positions) are
  counts-from (suc turns) k positions end are = counts-turn k positions (omega (arith, end)) (λ later. counts-from turns (k + 1) later (omega (arith, end))) are

pub made-inside : (m : Market) (test : ℕ → Bool) (segments : List (List Rejection)) (k : ℕ) (positions : List ℕ) → WellFormed m → AreApart m test → IsSegmented m segments → k ≤ length segments → AreTurnsOf m test k (length segments) positions
    → made_at m segments positions + placed_of m test (matching_of (cut m k) (joined (take k segments)))
    ≡ length (joined (part_of (drop k (students_of m)) test (drop k segments))) + placed_of m test (matching_of m (joined segments))
made-inside m test segments k positions well apart segmented low turns =
    counts-from m test segments well apart segmented (length segments - k) k positions (omega (arith, low)) turns
    ∙ ap (λ n. left_from m test segments k + placed_of m test (matching_of n (joined (take (length segments) segments)))) (cut-all m (length segments) (omega (arith, segmented.one_each)))
    ∙ ap (λ list. left_from m test segments k + placed_of m test (matching_of m (joined list))) (take_all (length segments) segments (omega arith))
