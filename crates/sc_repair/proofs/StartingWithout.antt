-- A student who leaves: what is known before the turns of their region are taken anew, as if they did not enter.
use Rattle.std.proofs.Common.{◌≡◌, refl, ap, sym, subst, ◌∙◌, ℕ, zero, suc, ◌-◌, ◌≤◌, ◌<◌, ◌==◌, nat_eq, Bool, true, false, List, [], ◌∷◌, length, get_or, slice_get, take, Some, None, inl, inr, arith}
use Rattle.std.specs.Borrow.{Bor}
use Rattle.std.specs.List.{list_any, position_or_len}
use Rattle.std.proofs.lemmas.Bool.{cases_Bool, cond-true, cond-false, eqb-true, false≢true}
use Rattle.std.proofs.lemmas.Bool.Decides.{nat_tests}
use Rattle.std.proofs.lemmas.Grind.{common_steps}
use Rattle.std.proofs.lemmas.List.{length-map}
use Rattle.std.proofs.lemmas.List.Sums.{passes_at_first}
use Rattle.std.proofs.lemmas.Option.{get_or_from_slice_get, slice_get-get_or}
use Rattle.sc_papers.specs.Key.{key_of}
use Rattle.sc_papers.specs.Market.{Market, choices_of, schools_of, seats_of, student_at, students_of}
use Rattle.sc_papers.specs.Restriction.{AlikeUpTo}
use Rattle.sc_papers.specs.Verdict.{verdict}
use Rattle.sc_papers.specs.WellFormed.{WellFormed}
use Rattle.sc_papers.specs.declared.amendment.Amendment.{Amendment}
use Rattle.sc_papers.specs.declared.amendment.Amendment.TheVariants.{Withdraw}
use Rattle.sc_papers.proofs.EntryOrder.{last-within}
use Rattle.sc_papers.proofs.Rewinding.{alike-students}
use Rattle.sc_checkpoint.specs.Chains.{logs_in, students_in, Chain}
use Rattle.sc_region.specs.Marks.{marked}
use Rattle.sc_region.specs.Region.{amended}
use Rattle.sc_region.specs.Telling.{MarkRegion}
use Rattle.sc_ledgers.specs.Anew.{StartsAnew}
use Rattle.sc_ledgers.specs.Course.{labels_of}
use Rattle.sc_ledgers.specs.Elsewhere.{old_row}
use Rattle.sc_ledgers.specs.Renewed.{AreTurnsOf}
use Rattle.sc_ledgers.specs.Sweep.{IsRegion}
use Rattle.sc_ledgers.specs.declared.following.Rows.{Rows}
use Rattle.sc_ledgers.specs.declared.ledger.Label.{Label}
use Rattle.sc_ledgers.specs.declared.opened.Ledgers.{Ledgers}
use Rattle.sc_repair.specs.Anew.{AreLedgersOf, IsStruck}
use Rattle.sc_repair.specs.Locality.{is_among, marked_from, marked_in, TellsRegion}
use Rattle.sc_repair.specs.Rewinding.{position_of}
use Rattle.sc_repair.proofs.RegionTurns.{inner_of, lies-still, region-of, struck-left, turns-of, AreLeft}
use Rattle.sc_repair.proofs.Regional.{marks-tell}
use Rattle.sc_repair.proofs.Resumption.{length-students}

-- the rows of the papers, as they stand, of which a student does not enter in the new run
abbrev pub rows_without : Bor Market → Bor (List ℕ) → ℕ → Rows
rows_without papers before i = record { papers = papers; amended = Some i; before = before; leaves = true }

-- a student leaves papers whose chains are their students': the region is marked
pub record Leaves (m : Market) (i point : ℕ) (marks : List Bool) (chains : List Chain) : Type 0 where
  pub well_formed : WellFormed m
  pub allowed : verdict m (Withdraw i) ≡ None
  pub at : point ≡ position_of m i
  pub region : MarkRegion m (Withdraw i) marks
  pub theirs : students_in chains ≡ students_of m

-- and the ledgers are those of the log, of which the student's labels have been struck
pub record MayLeave (m : Market) (i point : ℕ) (marks : List Bool) (chains : List Chain) (ledgers : Ledgers) (left : List (List Label)) : Type 0 where
  pub leaves : Leaves m i point marks chains
  pub labelled : AreLedgersOf m (logs_in chains) ledgers
  pub struck : IsStruck m (Some i) ledgers.schools.items left

-- marks of a region tell who passes a test that tells the region
pub marks-test : (m : Market) (a : Amendment) (marks : List Bool) (test : ℕ → Bool) → MarkRegion m a marks → TellsRegion m a test → (p : ℕ) → p < length (students_of m) → get_or marks p false ≡ test (student_at m p)
marks-test m a marks test region tells p low =
    let here : slice_get (students_of m) p ≡ Some (student_at m p) = slice_get-get_or (students_of m) p 0 low in
    both (get_or marks p false) (test (student_at m p)) (λ marked. (tells (student_at m p)).1 ((region.region p (student_at m p) here).0 marked))
    (λ passes. (region.region p (student_at m p) here).1 ((tells (student_at m p)).0 passes))
  where
    both : (a b : Bool) → (a ≡ true → b ≡ true) → (b ≡ true → a ≡ true) → a ≡ b
    both true b there back = sym (there refl)
    both false true there back = back refl
    both false false there back = refl

-- a number is none of those before the first place where it stands
before-first : (i t : ℕ) (xs : List ℕ) → t ≤ position_or_len (nat_eq i) xs → (j : ℕ) → list_any (λ x. x == j) (take t xs) ≡ true → (i == j) ≡ false
before-first i zero xs low j among = absurd (false≢true among)
before-first i (suc t) [] low j among = absurd (false≢true among)
before-first i (suc t) (x ∷ xs) low j among = grind (arith, nat_tests, common_steps, low, among, before-first i t xs)

-- the choices of all are as they were
same-rows : (m : Market) (i j : ℕ) → choices_of m j ≡ old_row m (Some i) (choices_of m i) j
same-rows m i j = elim (cases_Bool (i == j)) [
  | inl same ↦ ap (choices_of m) (sym (eqb-true i j same)) ∙ sym (cond-true (i == j) (choices_of m i) (choices_of m j) same)
  | inr other ↦ sym (cond-false (i == j) (choices_of m i) (choices_of m j) other)
]

module _ {m : Market} {i point : ℕ} {marks : List Bool} {chains : List Chain} (may : Leaves m i point marks chains) where
  pub leaver-tells : TellsRegion m (Withdraw i) (is_among (marked_in marks chains))
  leaver-tells =
      subst (λ xs. TellsRegion m (Withdraw i) (is_among (marked marks xs))) (sym may.theirs) (marks-tell m (Withdraw i) marks may.well_formed may.allowed refl may.region.region)

  -- the student stands at the point
  pub leaver-low : point < length (students_of m)
  leaver-low = omega (arith, may.at, last-within m i may.well_formed may.allowed, length-students m)

  pub leaver-here : slice_get (students_of m) point ≡ Some i
  leaver-here =
      ap (slice_get (students_of m)) may.at
      ∙ slice_get-get_or (students_of m) (position_of m i) 0 (omega (arith, may.at, leaver-low))
      ∙ ap Some (sym (eqb-true i (get_or (students_of m) (position_of m i) 0) (passes_at_first (nat_eq i) (students_of m) 0 (omega (arith, may.at, leaver-low)))))

  -- there is a segment for each student
  pub leaver-count : length (logs_in chains) ≡ length (students_of m)
  leaver-count = omega (arith, length-map chains (λ (c : Chain). c.rejections), length-map chains (λ (c : Chain). c.student), ap (λ (xs : List ℕ). length xs) may.theirs)

  -- the turns of the region are those of the marks
  turns-marked : AreTurnsOf m (is_among (marked_in marks chains)) point (length (logs_in chains)) (marked_from marks point)
  turns-marked =
      turns-of m (is_among (marked_in marks chains)) marks (length (logs_in chains)) point (length marks - point) (omega (arith, leaver-low, leaver-count, may.region.one_each, length-students m))
      (λ p low. marks-test m (Withdraw i) marks (is_among (marked_in marks chains)) may.region leaver-tells p (omega (arith, low, leaver-count)))

module _ {m : Market} {i point : ℕ} {marks : List Bool} {chains : List Chain} {ledgers : Ledgers} {left : List (List Label)} (may : MayLeave m i point marks chains ledgers left) where
  -- and so the turns can be taken anew
  pub starts-without : (papers : Bor Market) (before : Bor (List ℕ)) (positions : List ℕ) → papers.now ≡ m → before.now ≡ choices_of m (student_at m point) → positions ≡ marked_from marks point
      → StartsAnew m (rows_without papers before i) (is_among (marked_in marks chains)) (inner_of m m (is_among (marked_in marks chains)) None) (logs_in chains) point (labels_of m ledgers.schools.items) (labels_of papers.now left) ledgers.ends positions None
  starts-without papers before positions same theirs these =
      let test : ℕ → Bool = is_among (marked_in marks chains) in
      let own : before.now ≡ choices_of m i = theirs ∙ ap (choices_of m) (get_or_from_slice_get (students_of m) point i 0 (leaver-here may.leaves)) in
      let are : AreLeft (Some i) (labels_of m ledgers.schools.items) (labels_of papers.now left) =
      struck-left m papers.now (logs_in chains) (Some i) ledgers left may.leaves.well_formed (ap schools_of same) may.labelled may.struck in
      record {
        well_formed = may.leaves.well_formed;
        well_new = subst WellFormed (sym same) may.leaves.well_formed;
        students = ap students_of same;
        schools = ap schools_of same;
        choices = λ j. same-rows m i j ∙ (λ t. old_row (sym same t) (Some i) (sym own t) j);
        seats = λ s other. ap (λ n. seats_of n s) same;
        keys = λ j s other. ap (λ n. key_of n j s) same;
        whole = may.labelled.whole;
        ended = may.labelled.ended;
        kept = are.kept;
        only = are.only;
        gone = are.gone;
        within = omega (arith, leaver-low may.leaves, leaver-count may.leaves);
        alike = λ t low. subst (AlikeUpTo t m) (sym same) (alike-students m m t refl refl refl);
        first = λ t j low among. before-first i t (students_of m) (omega (arith, low, may.leaves.at)) j among;
        region = subst (λ n. IsRegion m n (Some i) test (inner_of m m test None)) (sym same) (region-of (lies-still m (Withdraw i) test (leaver-tells may.leaves)) (Some i) (λ j is. ap test (sym (eqb-true i j is)) ∙ (leaver-tells may.leaves i).1 (amended i refl)));
        inside = tt;
        turns = subst (λ n. AreTurnsOf n test point (length (logs_in chains)) positions) (sym same) (subst (AreTurnsOf m test point (length (logs_in chains))) (sym these) (turns-marked may.leaves));
      }
