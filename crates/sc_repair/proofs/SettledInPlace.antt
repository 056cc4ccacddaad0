-- The region of an amendment by which nobody enters or withdraws was settled anew: the standing after it.
use Rattle.std.proofs.Common.{◌≡◌, refl, ap, sym, subst, ◌∙◌, ℕ, ◌+◌, ◌-◌, ◌≤◌, ◌<◌, ◌&&◌, not, Bool, true, false, zero, suc, cond, Contains, List, [], ◌∷◌, length, map, Option, Some, drop, get_or, arith}
use Rattle.std.proofs.lemmas.List.{get_or-map, get_or_default, length-map}
use Rattle.sc_papers.specs.Market.{Market, students_of}
use Rattle.sc_papers.specs.Restriction.{joined, AreApart, IsSegmented}
use Rattle.sc_papers.specs.WellFormed.{WellFormed}
use Rattle.sc_papers.proofs.Cutting.{cut-all}
use Rattle.sc_checkpoint.specs.Chains.{logs_in, students_in, Chain}
use Rattle.sc_region.proofs.MarkedPositions.{below-marked}
use Rattle.sc_weave.specs.Weaving.{part_of}
use Rattle.sc_ledgers.specs.Anew.{StartsAnew}
use Rattle.sc_ledgers.specs.Cohort as cohorts
use Rattle.sc_ledgers.specs.Cohort.{cohort}
use Rattle.sc_ledgers.specs.Elsewhere.{cohort_of, is_same}
use Rattle.sc_ledgers.specs.Opening.{everybody}
use Rattle.sc_ledgers.specs.Proposals.{made_at}
use Rattle.sc_ledgers.specs.Renewed.{AreTurnsOf}
use Rattle.sc_ledgers.specs.Whole.{AreWhole}
use Rattle.sc_ledgers.specs.declared.following.Rows.{Rows}
use Rattle.sc_ledgers.specs.declared.ledger.Label.{Label}
use Rattle.sc_ledgers.proofs.Cohorts.{cut-everybody, run-segments}
use Rattle.sc_ledgers.proofs.TurnsMade.{made-inside}
use Rattle.sc_repair.specs.Anew.{HavePlaces, IsSettledAnew}
use Rattle.sc_repair.specs.Changed.{IsResettled}
use Rattle.sc_repair.specs.Locality.{marked_from, marked_within, placed_of}
use Rattle.sc_repair.proofs.Positioned.{within-from}
use Rattle.sc_repair.proofs.Resumption.{certified-of, length-students}

-- where nobody leaves, everybody enters
all-enter : (rows : Rows) → rows.leaves ≡ false → cohort_of rows ≡ cohort rows.papers.now everybody
all-enter rows stays = λ t. cohort rows.papers.now (λ j. not (stays t && is_same rows.amended (Some j)))

-- so the papers of all turns are all papers
all-turns : (n : Market) (k : ℕ) → WellFormed n → length (students_of n) ≤ k → cohorts.cut (cohort n everybody) k ≡ n
all-turns n k well all = cut-everybody (cohort n everybody) k well (λ j. refl) ∙ cut-all n k all

-- a region was settled anew, where nobody leaves
module _ {rows : Rows} {test : ℕ → Bool} {point : ℕ} {old new : List Chain} {places after : List (ℕ × ℕ)} {labels : ℕ → List Label} {ends : List (Option ℕ)} (anew : IsSettledAnew rows test point old new places after labels ends) (stays : rows.leaves ≡ false) where
  -- the labels are those of a run of everybody, so that its segments are the log of all
  pub settled-whole : AreWhole (cohort rows.papers.now everybody) (logs_in new) labels
  settled-whole = subst (λ c. AreWhole c (logs_in new) labels) (all-enter rows stays) anew.whole

  pub settled-run : WellFormed rows.papers.now → IsSegmented rows.papers.now (logs_in new)
  settled-run well = run-segments (cohort rows.papers.now everybody) (logs_in new) well (λ j. refl) settled-whole.run

  -- there is a segment for each student still
  pub settled-many : (m : Market) → students_in old ≡ students_of m → length new ≡ length m.students
  settled-many m theirs =
      omega (arith, ap (λ (xs : List ℕ). length xs) (anew.theirs ∙ theirs), length-map new (λ (c : Chain). c.student), length-students m)

  settled-places : WellFormed rows.papers.now → length (students_of rows.papers.now) ≤ length old → HavePlaces rows.papers.now (logs_in new) after
  settled-places well all =
      subst (λ p. HavePlaces p (logs_in new) after) (ap (λ c. cohorts.cut c (length old)) (all-enter rows stays) ∙ all-turns rows.papers.now (length old) well all) anew.placed

  -- and the standing is that of the new papers, in which the turns from the point on made the proposals
  pub settled-standing : {m : Market} {inner : ℕ → Bool} {before started : ℕ → List Label} {kept : List (Option ℕ)} {positions : List ℕ} {place : Option ℕ} → AreApart rows.papers.now test → students_in old ≡ students_of m
      → StartsAnew m rows test inner (logs_in old) point before started kept positions place → IsResettled rows.papers.now test point places after old new (made_at rows.papers.now (logs_in new) positions)
  settled-standing {positions = positions} apart theirs starts =
      let n = rows.papers.now in
      let run = settled-run starts.well_new in
      let own : students_in old ≡ students_of n = theirs ∙ sym starts.students in
      let count : length old ≡ length (students_of n) = omega (arith, length-map old (λ (c : Chain). c.student), ap (λ (xs : List ℕ). length xs) own) in
      let as_many : length (logs_in old) ≡ length (logs_in new) = omega (arith, run.one_each, count, length-map old (λ (c : Chain). c.rejections)) in
      let placed = settled-places starts.well_new (omega (arith, count)) in
      record {
        certified = certified-of n after (logs_in new) (made_at n (logs_in new) positions) starts.well_new run placed;
        theirs = anew.theirs ∙ own;
        stays = anew.stays;
        others = anew.others;
        proposals =
            made-inside n test (logs_in new) point positions starts.well_new apart run (omega (arith, starts.within, as_many)) (subst (λ k. AreTurnsOf n test point k positions) as_many starts.turns)
            ∙ ap (λ a. length (joined (part_of (drop point (students_of n)) test (drop point (logs_in new)))) + placed_of n test a) (λ t i. sym (placed i) t);
      }

-- positions less nothing are the same
pub less-none : (gap : ℕ) (positions : List ℕ) → gap ≡ 0 → map (λ p. p - gap) positions ≡ positions
less-none gap [] none = refl
less-none gap (p ∷ positions) none =
    let same : p - gap ≡ p = omega (arith, none) in
    λ t. same t ∷ less-none gap positions none t

-- and positions below an end stay below it
pub less-below : (gap end : ℕ) (positions : List ℕ) → ((k : ℕ) → k < length positions → get_or positions k 0 < end) → (k : ℕ) → k < length (map (λ p. p - gap) positions) → get_or (map (λ p. p - gap) positions) k 0 < end
less-below gap end positions below k low =
    let within : k < length positions = omega (arith, low, length-map positions (λ p. p - gap)) in
    omega (arith, below k within, get_or-map (λ p. p - gap) positions k 0 0 within)

-- the marked positions are not more than there are positions, and each is that of a mark
marked-few : (marks : List Bool) (from count : ℕ) → length (marked_within marks from count) ≤ count
marked-few marks from zero = omega arith
marked-few marks from (suc count) = go (get_or marks from false) (marked-few marks (from + 1) count)
  where
    go : (b : Bool) → length (marked_within marks (from + 1) count) ≤ count → length (cond b (from ∷ marked_within marks (from + 1) count) (marked_within marks (from + 1) count)) ≤ suc count
    go true few = omega (arith, few)
    go false few = omega (arith, few)

pub from-few : (marks : List Bool) (from : ℕ) (positions : List ℕ) → positions ≡ marked_from marks from → length positions ≤ length marks
from-few marks from positions is = omega (arith, ap (λ (ps : List ℕ). length ps) is, marked-few marks from (length marks - from))

pub from-below : (marks : List Bool) (from : ℕ) (positions : List ℕ) → positions ≡ marked_from marks from → (k : ℕ) → k < length positions → get_or positions k 0 < length marks
from-below marks from positions is k low =
    let p = get_or positions k 0 in
    let (start, high, its) = within-from marks from (length marks - from) p (subst (λ ps. Contains ps p) is (k, low, get_or_default positions k p 0 low)) in
    below-marked marks p its

-- the standing after it, with the proposals that were counted
pub settled-counted : {m : Market} {rows : Rows} {test inner : ℕ → Bool} {point : ℕ} {old new : List Chain} {places after : List (ℕ × ℕ)} {labels before started : ℕ → List Label} {ends kept : List (Option ℕ)} {positions : List ℕ} {place : Option ℕ}
    → StartsAnew m rows test inner (logs_in old) point before started kept positions place → IsSettledAnew rows test point old new places after labels ends → rows.leaves ≡ false → students_in old ≡ students_of m
    → (n p : Market) (gap made : ℕ) → rows.papers.now ≡ n → AreApart n test → p ≡ n → gap ≡ 0 → made ≡ made_at p (logs_in new) (map (λ at. at - gap) positions) → IsResettled n test point places after old new made
settled-counted {test = test} {point = point} {old = old} {new = new} {places = places} {after = after} {positions = positions} starts anew stays theirs n p gap made papers apart same none counted =
    let is : made_at n (logs_in new) positions ≡ made = sym (counted ∙ (λ t. made_at (same t) (logs_in new) (less-none gap positions none t))) in
    subst (IsResettled n test point places after old new) is
    (subst (λ q. IsResettled q test point places after old new (made_at q (logs_in new) positions)) papers
    (settled-standing anew stays (subst (λ q. AreApart q test) (sym papers) apart) theirs starts))
