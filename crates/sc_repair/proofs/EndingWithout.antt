-- A student who leaves: what is known once the turns of their region were taken anew, and papers, segments and ledgers have let the student go.
use Rattle.std.proofs.Common.{◌≡◌, inl, inr, refl, ap, sym, subst, ◌∙◌, ℕ, zero, suc, ◌+◌, ◌-◌, ◌≤◌, ◌<◌, Bool, false, List, [], ◌∷◌, length, drop, get_or, map, remove, take, Ok, arith}
use Rattle.std.specs.Borrow.{Bor}
use Rattle.std.specs.declared.alloc.AllocError.{AllocError}
use Rattle.std.proofs.lemmas.Bool.{cases_Bool, cases_lt, cond-true, cond-false}
use Rattle.std.proofs.lemmas.List.{length-map, take_all}
use Rattle.std.proofs.lemmas.List.Edits.{get_or-remove_above, get_or-remove_below, length-remove}
use Rattle.sc_papers.specs.Assignment.{assigned}
use Rattle.sc_papers.specs.Log.{matching_of, next_choice}
use Rattle.sc_papers.specs.Market.{Market, student_at, students_of}
use Rattle.sc_papers.specs.Restriction as whole
use Rattle.sc_papers.specs.Restriction.{joined, AreApart, IsSegmented}
use Rattle.sc_papers.specs.Verdict.{without_student}
use Rattle.sc_papers.specs.WellFormed.{WellFormed}
use Rattle.sc_papers.specs.declared.amendment.Amendment.TheVariants.{Withdraw}
use Rattle.sc_papers.specs.declared.rejection.Rejection.{Rejection}
use Rattle.sc_papers.proofs.Changing.{WellFormed-without_student}
use Rattle.sc_papers.proofs.Cutting.{cut-all}
use Rattle.sc_checkpoint.specs.Chains.{logs_in, students_in, Chain}
use Rattle.sc_checkpoint.specs.Positions.{LieBelow}
use Rattle.sc_ledgers.specs.Cohort.{cohort, cut}
use Rattle.sc_ledgers.specs.Course.{labels_of}
use Rattle.sc_ledgers.specs.Elsewhere.{still_enters}
use Rattle.sc_ledgers.specs.Ends.{AreEnds}
use Rattle.sc_ledgers.specs.Left.{AreWithout}
use Rattle.sc_ledgers.specs.Opening.{everybody}
use Rattle.sc_ledgers.specs.Proposals.{made_at}
use Rattle.sc_ledgers.specs.Renewed.{AreTurnsOf}
use Rattle.sc_ledgers.specs.Whole.{AreWhole}
use Rattle.sc_ledgers.specs.declared.ledger.Label.{Label}
use Rattle.sc_ledgers.specs.declared.opened.Ledgers.{Ledgers}
use Rattle.sc_ledgers.proofs.Cohorts.{cut-everybody, run-segments}
use Rattle.sc_ledgers.proofs.TurnEnds.{ends-left, map-remove}
use Rattle.sc_ledgers.proofs.Leavers.{segment-empty, whole-withdrawn}
use Rattle.sc_ledgers.proofs.TurnsMade.{made-inside}
use Rattle.sc_ledgers.proofs.Without.{cut-behind, joined-behind, students-without}
use Rattle.sc_repair.specs.Anew.{AreLedgersOf, HavePlaces, IsSettledAnew}
use Rattle.sc_repair.specs.Changed.{standing_of}
use Rattle.sc_weave.specs.Weaving.{part_of}
use Rattle.sc_repair.specs.Locality.{is_among, marked_from, marked_in, marked_within, placed_of}
use Rattle.sc_repair.specs.Standing.{CountsInside, IsAmended, IsCertified}
use Rattle.sc_repair.proofs.RegionTurns.{turns-of}
use Rattle.sc_repair.proofs.Regional.{counts-region, keeps-others, region-apart_after}
use Rattle.sc_repair.proofs.Resumption.{certified-of, length-students}
use Rattle.sc_repair.proofs.StartingWithout.{leaver-count, leaver-here, leaver-low, leaver-tells, marks-test, rows_without, Leaves, MayLeave}

-- what stands before an item of a list stays once it is gone
take-remove : {X : Type 0} (xs : List X) (p : ℕ) → take p (remove xs p) ≡ take p xs
take-remove [] zero = refl
take-remove [] (suc p) = refl
take-remove (x ∷ xs) zero = refl
take-remove (x ∷ xs) (suc p) = ap (λ ys. x ∷ ys) (take-remove xs p)

-- the marked positions behind one of which the mark goes, each one further on
marks-behind : (marks : List Bool) (point from count : ℕ) → point ≤ from → point < length marks → map (λ p. p - 1) (marked_within marks (from + 1) count) ≡ marked_within (remove marks point) from count
marks-behind marks point from zero low within = refl
marks-behind marks point from (suc count) low within =
    let same : get_or (remove marks point) from false ≡ get_or marks (from + 1) false = get_or-remove_above marks point false from low within in
    let rest = marks-behind marks point (from + 1) count (omega (arith, low)) within in
    let here : from + 1 - 1 ≡ from = omega arith in
    elim (cases_Bool (get_or marks (from + 1) false)) [
      | inl marked ↦
          ap (map (λ p. p - 1)) (cond-true (get_or marks (from + 1) false) ((from + 1) ∷ marked_within marks (from + 1 + 1) count) (marked_within marks (from + 1 + 1) count) marked)
          ∙ (λ t. here t ∷ rest t)
          ∙ sym (cond-true (get_or (remove marks point) from false) (from ∷ marked_within (remove marks point) (from + 1) count) (marked_within (remove marks point) (from + 1) count) (same ∙ marked))
      | inr other ↦
          ap (map (λ p. p - 1)) (cond-false (get_or marks (from + 1) false) ((from + 1) ∷ marked_within marks (from + 1 + 1) count) (marked_within marks (from + 1 + 1) count) other)
          ∙ rest
          ∙ sym (cond-false (get_or (remove marks point) from false) (from ∷ marked_within (remove marks point) (from + 1) count) (marked_within (remove marks point) (from + 1) count) (same ∙ other))
    ]

-- turns up to an end are below it, and no more than there are
pub turns-below : (n : Market) (test : ℕ → Bool) (from end : ℕ) (positions : List ℕ) → AreTurnsOf n test from end positions → LieBelow end positions
turns-below n test from end [] turns k low = absurd (omega (arith, low))
turns-below n test from end (p ∷ positions) (first, below, none, passes, later) zero low = below
turns-below n test from end (p ∷ positions) (first, below, none, passes, later) (suc k) low = turns-below n test (p + 1) end positions later k (omega (arith, low))

pub turns-few : (n : Market) (test : ℕ → Bool) (from end : ℕ) (positions : List ℕ) → AreTurnsOf n test from end positions → length positions ≤ end - from
turns-few n test from end [] turns = omega arith
turns-few n test from end (p ∷ positions) (first, below, none, passes, later) = omega (arith, first, below, turns-few n test (p + 1) end positions later)

-- of papers that a student has left, the turns of the region behind theirs, each of which stood one position further on
pub turns-behind : {m : Market} {i point : ℕ} {marks : List Bool} {chains : List Chain} (leaves : Leaves m i point marks chains) (n : Market) → n ≡ without_student m i → (end : ℕ) → end ≡ length (students_of n) → (behind : List ℕ) → behind ≡ marked_from marks (point + 1)
    → AreTurnsOf n (is_among (marked_in marks chains)) point end (map (λ p. p - 1) behind)
turns-behind {m} {i} {point} {marks} {chains} leaves n gone end is behind these =
    let test : ℕ → Bool = is_among (marked_in marks chains) in
    subst (AreTurnsOf n test point end) (sym (ap (map (λ p. p - 1)) these ∙ marks-behind marks point point (length marks - (point + 1)) (omega arith) (omega (arith, marks-long, leaver-low leaves))))
    (turns-of n test (remove marks point) end point (length marks - (point + 1)) (omega (arith, marks-long, leaver-low leaves, is, as-many)) told)
  where
    marks-long : length marks ≡ length (students_of m)
    marks-long = omega (arith, leaves.region.one_each, length-students m)

    students : students_of n ≡ remove (students_of m) point
    students = ap students_of gone ∙ students-without m point i leaves.well_formed (leaver-here leaves)

    as-many : length (students_of n) + 1 ≡ length (students_of m)
    as-many = omega (arith, ap (λ (xs : List ℕ). length xs) students, length-remove (students_of m) point (leaver-low leaves))

    told : (p : ℕ) → p < end → get_or (remove marks point) p false ≡ is_among (marked_in marks chains) (student_at n p)
    told p low = elim (cases_lt p point) [
      | inl before ↦
          get_or-remove_below marks point false p before (omega (arith, marks-long, leaver-low leaves))
          ∙ marks-test m (Withdraw i) marks (is_among (marked_in marks chains)) leaves.region (leaver-tells leaves) p (omega (arith, before, leaver-low leaves))
          ∙ ap (is_among (marked_in marks chains)) (sym (ap (λ xs. get_or xs p 0) students ∙ get_or-remove_below (students_of m) point 0 p before (leaver-low leaves)))
      | inr from ↦
          get_or-remove_above marks point false p from (omega (arith, marks-long, leaver-low leaves))
          ∙ marks-test m (Withdraw i) marks (is_among (marked_in marks chains)) leaves.region (leaver-tells leaves) (p + 1) (omega (arith, low, is, as-many))
          ∙ ap (is_among (marked_in marks chains)) (sym (ap (λ xs. get_or xs p 0) students ∙ get_or-remove_above (students_of m) point 0 p from (leaver-low leaves)))
    ]

-- the turns of the region were taken anew, as if the student did not enter, and then the student has left: the papers, the chains and the
-- ledgers are without them
pub record HasLeft (m n : Market) (i point : ℕ) (test : ℕ → Bool) (papers : Bor Market) (before : Bor (List ℕ)) (chains new fewer : List Chain) (places after final : List (ℕ × ℕ)) (anew left : Ledgers) : Type 0 where
  pub same : papers.now ≡ m
  pub settled : IsSettledAnew (rows_without papers before i) test point chains new places after (labels_of papers.now anew.schools.items) anew.ends
  pub gone : n ≡ without_student m i
  pub removed : fewer ≡ remove new point
  pub given : final ≡ after
  pub one_each : length left.schools.items ≡ length papers.now.schools
  pub without : AreWithout point (labels_of m anew.schools.items) (labels_of m left.schools.items)
  pub ends : left.ends ≡ remove anew.ends point

module _ {m n : Market} {i point : ℕ} {marks : List Bool} {papers : Bor Market} {before : Bor (List ℕ)} {chains new fewer : List Chain} {places after final : List (ℕ × ℕ)} {struck : List (List Label)} {ledgers anew left : Ledgers}
    (may : MayLeave m i point marks chains ledgers struck) (has : HasLeft m n i point (is_among (marked_in marks chains)) papers before chains new fewer places after final anew left) where
  -- everybody else enters
  abbrev enters : ℕ → Bool
  enters = still_enters (rows_without papers before i)

  whole-before : AreWhole (cohort m enters) (logs_in new) (labels_of m anew.schools.items)
  whole-before = subst (λ p. AreWhole (cohort p enters) (logs_in new) (labels_of p anew.schools.items)) has.same has.settled.whole

  well : WellFormed n
  well = subst WellFormed (sym has.gone) (WellFormed-without_student m i may.leaves.well_formed)

  -- the segments without the student's
  logs : logs_in fewer ≡ remove (logs_in new) point
  logs = ap logs_in has.removed ∙ map-remove (λ (c : Chain). c.rejections) new point

  students : students_of n ≡ remove (students_of m) point
  students = ap students_of has.gone ∙ students-without m point i may.leaves.well_formed (leaver-here may.leaves)

  as-many : length (students_of n) + 1 ≡ length (students_of m)
  as-many = omega (arith, ap (λ (xs : List ℕ). length xs) students, length-remove (students_of m) point (leaver-low may.leaves))

  whole-after : AreWhole (cohort n everybody) (remove (logs_in new) point) (labels_of n left.schools.items)
  whole-after =
      whole-withdrawn (cohort m enters) n point i (logs_in new) (labels_of m anew.schools.items) (labels_of n left.schools.items) may.leaves.well_formed (leaver-here may.leaves) has.gone (λ j. refl) whole-before
      (subst (λ p. AreWithout point (labels_of m anew.schools.items) (labels_of p left.schools.items)) (sym has.gone) has.without)

  pub left-theirs : students_in fewer ≡ students_of n
  left-theirs =
      ap students_in has.removed ∙ map-remove (λ (c : Chain). c.student) new point ∙ ap (λ xs. remove xs point) (has.settled.theirs ∙ may.leaves.theirs) ∙ sym students

  pub left-segmented : IsSegmented n (logs_in fewer)
  left-segmented = subst (IsSegmented n) (sym logs) (run-segments (cohort n everybody) (remove (logs_in new) point) well (λ j. refl) whole-after.run)

  pub left-ledgers : AreLedgersOf n (logs_in fewer) left
  left-ledgers = record {
    one_each = has.one_each ∙ ap (λ (p : Market). length p.schools) has.same ∙ ap (λ (p : Market). length p.schools) (sym has.gone);
    whole = subst (λ segments. AreWhole (cohort n everybody) segments (labels_of n left.schools.items)) (sym logs) whole-after;
    ended = subst (λ segments. AreEnds n segments left.ends) (sym logs)
        (subst (AreEnds n (remove (logs_in new) point)) (sym has.ends)
        (ends-left (cohort m enters) n point i (logs_in new) anew.ends may.leaves.well_formed (leaver-here may.leaves) has.gone (λ j. refl) whole-before.run (subst (λ p. AreEnds p (logs_in new) anew.ends) has.same has.settled.ended)));
  }

  -- nothing came of the student's turn, so that the log is the same
  count : length (logs_in new) ≡ length (students_of m)
  count = whole-before.run.one_each

  same-log : joined (logs_in new) ≡ joined (logs_in fewer)
  same-log =
      let last = length (students_of n) in
      ap joined (sym (take_all (suc last) (logs_in new) (omega (arith, count, as-many))))
      ∙ sym (joined-behind (logs_in new) point last (segment-empty (cohort m enters) point i (logs_in new) (labels_of m anew.schools.items) may.leaves.well_formed (leaver-here may.leaves) (λ j. refl) whole-before) (omega (arith, leaver-low may.leaves, as-many)))
      ∙ ap joined (take_all last (remove (logs_in new) point) (omega (arith, length-remove (logs_in new) point (omega (arith, leaver-low may.leaves, count)), count, as-many)))
      ∙ ap joined (sym logs)

  same-papers : cut (cohort m enters) (length chains) ≡ n
  same-papers =
      let last = length (students_of n) in
      let end : length chains ≡ last + 1 = omega (arith, leaver-count may.leaves, length-map chains (λ (c : Chain). c.rejections), as-many) in
      ap (cut (cohort m enters)) end
      ∙ sym (cut-behind (cohort m enters) point i last may.leaves.well_formed (leaver-here may.leaves) (λ j. refl) (omega (arith, leaver-low may.leaves, as-many)) (omega (arith, as-many)))
      ∙ cut-everybody (cohort (without_student m i) everybody) last (WellFormed-without_student m i may.leaves.well_formed) (λ j. refl)
      ∙ ap (λ p. whole.cut p last) (sym has.gone)
      ∙ cut-all n last (omega arith)

  pub left-placed : HavePlaces n (logs_in fewer) final
  left-placed j =
      ap (λ (pairs : List (ℕ × ℕ)). assigned pairs j) has.given
      ∙ subst (λ p. HavePlaces (cut (cohort p enters) (length chains)) (logs_in new) after) has.same has.settled.placed j
      ∙ (λ t. next_choice (same-papers t) (same-log t) j)

  -- the turns of the region, of which each behind the student's stands one further on
  pub left-turns : (behind : List ℕ) → behind ≡ marked_from marks (point + 1) → AreTurnsOf n (is_among (marked_in marks chains)) point (length fewer) (map (λ p. p - 1) behind)
  left-turns behind these = turns-behind may.leaves n has.gone (length fewer) (omega (arith, ap (λ (xs : List ℕ). length xs) left-theirs, length-map fewer (λ (c : Chain). c.student))) behind these

  pub left-within : (behind : List ℕ) → behind ≡ marked_from marks (point + 1) → LieBelow (length fewer) (map (λ p. p - 1) behind)
  left-within behind these = turns-below n (is_among (marked_in marks chains)) point (length fewer) (map (λ p. p - 1) behind) (left-turns behind these)

  pub left-few : (behind : List ℕ) → behind ≡ marked_from marks (point + 1) → length behind ≤ length n.students
  left-few behind these =
      omega (
        arith,
        turns-few n (is_among (marked_in marks chains)) point (length fewer) (map (λ p. p - 1) behind) (left-turns behind these),
        length-map behind (λ p. p - 1),
        length-map fewer (λ (c : Chain). c.student),
        ap (λ (xs : List ℕ). length xs) left-theirs,
        length-students n,
      )

  -- what the withdrawal comes to
  pub left-certified : (made : ℕ) → IsCertified (standing_of n final fewer made)
  left-certified made = certified-of n final (logs_in fewer) made well left-segmented left-placed

  left-counts : (behind : List ℕ) (made : ℕ) → behind ≡ marked_from marks (point + 1) → made ≡ made_at n (logs_in fewer) (map (λ p. p - 1) behind) → CountsInside (is_among (marked_in marks chains)) point (standing_of n final fewer made)
  left-counts behind made these is =
      let test : ℕ → Bool = is_among (marked_in marks chains) in
      let log : List (List Rejection) = logs_in fewer in
      let positions : List ℕ = map (λ p. p - 1) behind in
      let many : length log ≡ length fewer = length-map fewer (λ (c : Chain). c.rejections) in
      ap (λ made. made + placed_of n test (matching_of (whole.cut n point) (joined (take point log)))) is
      ∙ made-inside n test log point positions well (subst (λ p. AreApart p test) (sym has.gone) (region-apart_after m (Withdraw i) test (leaver-tells may.leaves))) left-segmented
      (omega (arith, left-segmented.one_each, as-many, leaver-low may.leaves)) (subst (λ end. AreTurnsOf n test point end positions) (sym many) (left-turns behind these))
      ∙ ap (λ a. length (joined (part_of (drop point (students_of n)) test (drop point log))) + placed_of n test a) (sym (λ t j. left-placed j t))

  pub left-amended : (behind : List ℕ) (proposals made : ℕ) → behind ≡ marked_from marks (point + 1) → made ≡ made_at n (logs_in fewer) (map (λ p. p - 1) behind)
      → IsAmended {E = AllocError} (Ok tt) (standing_of m places chains proposals) (Withdraw i) (standing_of n final fewer made)
  left-amended behind proposals made these is =
      let test : ℕ → Bool = is_among (marked_in marks chains) in
      record {
        certified = left-certified made;
        accepted = has.gone;
        stays = subst (λ k. take k (logs_in fewer) ≡ take k (logs_in chains)) may.leaves.at (ap (take point) logs ∙ take-remove (logs_in new) point ∙ has.settled.stays);
        others = keeps-others (standing_of m places chains proposals) (standing_of n final fewer made) (Withdraw i) (marked_in marks chains) (leaver-tells may.leaves) has.gone
            (λ j out. ap (λ (pairs : List (ℕ × ℕ)). assigned pairs j) has.given ∙ has.settled.others j out);
        proposals = counts-region m (Withdraw i) (marked_in marks chains) (standing_of n final fewer made) (leaver-tells may.leaves)
            (subst (λ k. CountsInside test k (standing_of n final fewer made)) may.leaves.at (left-counts behind made these is));
        unchanged = tt;
      }
