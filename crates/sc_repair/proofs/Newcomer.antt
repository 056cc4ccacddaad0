-- A newcomer, who enters after all others: where everybody stands then, and what the settling comes to.
use Rattle.std.proofs.Common.{Option, ◌≡◌, inl, inr, refl, ap, sym, subst, ◌∙◌, ℕ, ◌+◌, ◌==◌, ◌||◌, Bool, true, false, cond, List, [], ◌∷◌, ◌++◌, length, slice_get, take, Some, None, Ok, Err, arith}
use Rattle.std.specs.declared.alloc.AllocError.{AllocError}
use Rattle.std.proofs.lemmas.Grind.{common_steps}
use Rattle.std.proofs.lemmas.Bool.{cases_Bool, eqb-true, false_from_ne_true, false≢true}
use Rattle.std.proofs.lemmas.List.{length-append, length-map, map-append, take-append-le, take_all}
use Rattle.std.proofs.lemmas.Option.{get_or_from_slice_get, none-some, same_Some}
use Rattle.std.proofs.Math.Bool.{or-false}
use Rattle.sc_papers.specs.Assignment.{assigned}
use Rattle.sc_papers.specs.Log.{matching_of, next_choice}
use Rattle.sc_papers.specs.Market.{Market, students_of}
use Rattle.sc_papers.specs.Matching.{IsStudentOptimal}
use Rattle.sc_papers.specs.Restriction as whole
use Rattle.sc_papers.specs.Restriction.{cut, is_among_first, joined, restricted, IsSegmented}
use Rattle.sc_papers.specs.Verdict.{after, verdict, with_student}
use Rattle.sc_papers.specs.WellFormed.{WellFormed}
use Rattle.sc_papers.specs.declared.amendment.Amendment.{Amendment}
use Rattle.sc_papers.specs.declared.amendment.Amendment.TheVariants.{Enter}
use Rattle.sc_papers.specs.declared.records.Student.{Student}
use Rattle.sc_papers.specs.declared.rejection.Rejection.{Rejection}
use Rattle.sc_papers.proofs.Amending.{WellFormed-after}
use Rattle.sc_papers.proofs.Cutting.{cut-all, cut-restricted, joined-push}
use Rattle.sc_papers.proofs.Locality.{optimal-outside}
use Rattle.sc_papers.proofs.Restriction.{next-dropped, next-kept, restricted-restricts}
use Rattle.sc_checkpoint.specs.Chains.{logs_in, students_in, with_chain, Chain}
use Rattle.sc_region.specs.Region.{amended, amended_student}
use Rattle.sc_region.proofs.Reaching.{region-exact, region_members}
use Rattle.sc_ledgers.specs.Cohort.{cohort}
use Rattle.sc_ledgers.specs.Course.{labels_of}
use Rattle.sc_ledgers.specs.Elsewhere.{is_aside, AreApart}
use Rattle.sc_ledgers.specs.Entered.{HasEntered}
use Rattle.sc_ledgers.specs.Opening.{everybody}
use Rattle.sc_ledgers.specs.Proposals.{made_at}
use Rattle.sc_ledgers.specs.Renewed.{AreTurnsOf}
use Rattle.sc_ledgers.specs.Whole.{AreWhole}
use Rattle.sc_ledgers.specs.declared.elsewhere.Stance.{Stance}
use Rattle.sc_ledgers.specs.declared.ledger.Label.{Label}
use Rattle.sc_ledgers.specs.declared.opened.Ledgers.{Ledgers}
use Rattle.sc_ledgers.proofs.Cohorts.{first-more, run-segments}
use Rattle.sc_ledgers.proofs.Siding.{aside-there, beside-absent}
use Rattle.sc_ledgers.proofs.TurnsMade.{made-inside}
use Rattle.sc_ledgers.specs.Ends.{AreEnds}
use Rattle.sc_repair.specs.Anew.{AreLedgersOf, HavePlaces}
use Rattle.sc_repair.specs.Changed.{newcomer, standing_of}
use Rattle.sc_repair.specs.Locality.{is_among, placed_of}
use Rattle.sc_repair.specs.Replacing.{with_given, with_replaced}
use Rattle.sc_repair.specs.Rewinding.{rewind_point}
use Rattle.sc_repair.specs.Standing.{CountsInside, CountsRegion, IsAmended, IsCertified, KeepsOthers, Standing}
use Rattle.sc_repair.proofs.InTurn.{seam-there}
use Rattle.sc_repair.proofs.Regional.{keeps-others, list-tells, region-alike, region-apart, region-apart_after}
use Rattle.sc_repair.proofs.Replaced.{replaced-places}
use Rattle.sc_repair.proofs.Resumption.{certified-of, length-students, logs-push, students-push}

-- The last student of the papers enters, by the ledgers of all others.

-- the ledgers of the papers without the newcomer have the same labels
labels-cut : (m : Market) (k : ℕ) (ledgers : List (List Label)) → labels_of (cut m k) ledgers ≡ labels_of m ledgers
unfolding cut
labels-cut m k ledgers = refl

schools-cut : (m : Market) (k : ℕ) → (cut m k).schools ≡ m.schools
unfolding cut
schools-cut m k = refl

pub ledgers-one_each : (m : Market) (k : ℕ) (segments : List (List Rejection)) (ledgers : Ledgers) → AreLedgersOf (cut m k) segments ledgers → length ledgers.schools.items ≡ length m.schools
ledgers-one_each m k segments ledgers kept = kept.one_each ∙ ap (λ ss. length ss) (schools-cut m k)

pub ledgers-whole : (m : Market) (k position : ℕ) (segments : List (List Rejection)) (ledgers : Ledgers) → position ≡ k → AreLedgersOf (cut m k) segments ledgers → AreWhole (cohort (cut m position) everybody) segments (labels_of m ledgers.schools.items)
ledgers-whole m k position segments ledgers at kept =
    subst (λ t. AreWhole (cohort (cut m t) everybody) segments (labels_of m ledgers.schools.items)) (sym at)
    (subst (AreWhole (cohort (cut m k) everybody) segments) (labels-cut m k ledgers.schools.items) kept.whole)

pub ledgers-ended : (m : Market) (k position : ℕ) (segments : List (List Rejection)) (ledgers : Ledgers) → position ≡ k → AreLedgersOf (cut m k) segments ledgers → AreEnds (cut m position) segments ledgers.ends
ledgers-ended m k position segments ledgers at kept = subst (λ t. AreEnds (cut m t) segments ledgers.ends) (sym at) kept.ended

-- where a student stands of whom some have entered
next-entered : (m : Market) (entered : ℕ → Bool) (log : List Rejection) (j : ℕ) → next_choice (restricted m entered) log j ≡ cond (entered j) (next_choice m log j) None
next-entered m entered log j = grind (arith, common_steps, next-kept (restricted-restricts m entered) log j, next-dropped (restricted-restricts m entered) log j)

-- all others stand where they stand in the papers without the last student
next-others : (m : Market) (k i : ℕ) (log : List Rejection) (j : ℕ) → WellFormed m → length m.students ≡ k + 1 → slice_get (students_of m) k ≡ Some i → (i == j) ≡ false → next_choice m log j ≡ next_choice (cut m k) log j
next-others m k i log j well last here other =
    let first : (t : ℕ) → next_choice (cut m t) log j ≡ cond (is_among_first m t j) (next_choice m log j) None =
    λ t. ap (λ p. next_choice p log j) (cut-restricted m t well) ∙ next-entered m (is_among_first m t) log j in
    let same : is_among_first m (k + 1) j ≡ is_among_first m k j = first-more m k i j here ∙ ap (λ b. is_among_first m k j || b) other ∙ or-false (is_among_first m k j) in
    ap (λ p. next_choice p log j) (sym (cut-all m (k + 1) (omega (arith, last, length-students m))))
    ∙ first (k + 1) ∙ ap (λ b. cond b (next_choice m log j) None) same ∙ sym (first k)

-- once the newcomer's chain has run, and whoever stands elsewhere has been given their place, everybody has theirs
pub placed-entered : (m : Market) (k i : ℕ) (segments : List (List Rejection)) (chain : List Rejection) (labels : ℕ → List Label) (ends : List (Option ℕ)) (list : List Stance) (before given moved : List (ℕ × ℕ))
    → WellFormed m → length m.students ≡ k + 1 → slice_get (students_of m) k ≡ Some i → HasEntered m i segments chain labels ends list → AreApart list → HavePlaces (cut m k) segments before
    → ((j : ℕ) → assigned given j ≡ with_given list (assigned before) j) → ((j : ℕ) → assigned moved j ≡ with_replaced list (assigned given) j) → HavePlaces m (segments ++ chain ∷ []) moved
placed-entered m k i segments chain labels ends list before given moved well last here entered apart stood were are j =
    let (stands, stays) = replaced-places list (assigned before) (assigned given) (assigned moved) apart were are in
    let now : assigned moved j ≡ next_choice m (joined segments ++ chain) j = elim (cases_Bool (is_aside list j)) [
      | inl is ↦
          let (x, stance, same) = aside-there list j is in
          stands j x stance same ∙ sym (entered.stances.new x stance) ∙ ap (next_choice m (joined segments ++ chain)) same
      | inr beside ↦
          let absent = beside-absent list j beside in
          let other : (i == j) ≡ false = false_from_ne_true (i == j) (λ is. false≢true (sym beside ∙ ap (is_aside list) (sym (eqb-true i j is)) ∙ entered.held)) in
          stays j absent ∙ stood j ∙ sym (next-others m k i (joined segments) j well last here other) ∙ sym (entered.stances.alike j absent)
    ] in
    now ∙ ap (λ log. next_choice m log j) (sym (joined-push segments chain))

-- An amendment by which a student enters.

pub record IsEntry (a : Amendment) (i : ℕ) : Type 0 where
  pub student : Student
  pub after : (m : Market) → after m a ≡ with_student m i student
  pub point : (m : Market) → rewind_point m a ≡ length m.students
  pub amended : amended_student a ≡ Some i

is-entry : (a : Amendment) (i : ℕ) → newcomer a ≡ Some i → IsEntry a i
is-entry (Enter j zone siblings choices continuing) i is =
    subst (IsEntry (Enter j zone siblings choices continuing)) (same_Some j i is) (record {
      student = record { zone = zone; siblings = siblings; choices = choices; continuing = continuing };
      after = λ m. refl;
      point = λ m. refl;
      amended = refl;
    })
is-entry _ i is = absurd (none-some i is)

-- the papers without the newcomer
cut-grown : (m : Market) (i : ℕ) (student : Student) → cut (with_student m i student) (length m.students) ≡ m
unfolding cut
cut-grown m i student = λ t. record m { students = (take-append-le (length m.students) m.students ((i, student) ∷ []) (omega arith) ∙ take_all (length m.students) m.students (omega arith)) t }

-- A standing before and after a newcomer.

-- papers have a newcomer by an amendment: the standing is that of the papers before
pub record Admits (m n : Market) (a : Amendment) (i : ℕ) (chains : List Chain) (before : List (ℕ × ℕ)) (proposals : ℕ) : Type 0 where
  pub entry : newcomer a ≡ Some i
  pub allowed : verdict m a ≡ None
  pub grown : n ≡ after m a
  pub sound : IsCertified (standing_of m before chains proposals)
  pub own : students_in chains ≡ students_of m

-- the newcomer has entered by a chain, which is put at the end, and by which the ledgers and the places are now
pub record HasCome (n : Market) (i : ℕ) (chains new : List Chain) (given : List (ℕ × ℕ)) (ledgers : Ledgers) : Type 0 where
  pub chain : List Rejection
  pub pushed : new ≡ with_chain chains i chain
  pub kept : AreLedgersOf n (logs_in new) ledgers
  pub placed : HavePlaces n (logs_in new) given

module _ {m n : Market} {a : Amendment} {i : ℕ} {chains : List Chain} {before : List (ℕ × ℕ)} {proposals : ℕ} (admits : Admits m n a i chains before proposals) where
  entering : IsEntry a i
  entering = is-entry a i admits.entry

  well : WellFormed n
  well = subst WellFormed (sym admits.grown) (WellFormed-after m a admits.sound.well_formed admits.allowed)

  many : length chains ≡ length m.students
  many = sym (length-map chains (λ (c : Chain). c.student)) ∙ ap (λ (xs : List ℕ). length xs) admits.own ∙ length-students m

  more : students_of n ≡ students_of m ++ i ∷ []
  more = ap students_of (admits.grown ∙ entering.after m) ∙ map-append (λ (e : ℕ × Student). e.0) m.students ((i, entering.student) ∷ [])

  part : m ≡ cut n (length chains)
  part = sym (ap (λ p. cut p (length chains)) (admits.grown ∙ entering.after m) ∙ ap (cut (with_student m i entering.student)) many ∙ cut-grown m i entering.student)

  there : slice_get (students_of n) (length chains) ≡ Some i
  there = (λ t. slice_get (more t) ((many ∙ sym (length-students m)) t)) ∙ seam-there (students_of m) i []

  -- all others have the places that the log gives them, and the newcomer is the last one
  pub admitted-placed : HavePlaces (cut n (length chains)) (logs_in chains) before
  admitted-placed j = admits.sound.matching j ∙ ap (λ p. next_choice p (joined (logs_in chains)) j) part

  pub admitted-last : length n.students ≡ length chains + 1
  admitted-last = omega (arith, many, length-students m, length-students n, ap (λ (xs : List ℕ). length xs) more, length-append (students_of m) (i ∷ []))

  -- the ledgers are still those of all others
  pub admitted-ledgers : (ledgers : Ledgers) → AreLedgersOf m (logs_in chains) ledgers → AreLedgersOf (cut n (length chains)) (logs_in chains) ledgers
  admitted-ledgers ledgers = subst (λ p. AreLedgersOf p (logs_in chains) ledgers) part

  -- once the newcomer has entered
  module _ {new : List Chain} {given : List (ℕ × ℕ)} {ledgers : Ledgers} (come : HasCome n i chains new given ledgers) where
    logs : logs_in new ≡ logs_in chains ++ come.chain ∷ []
    logs = ap logs_in come.pushed ∙ logs-push chains i come.chain

    pub admitted-run : IsSegmented n (logs_in new)
    admitted-run = run-segments (cohort n everybody) (logs_in new) well (λ j. refl) come.kept.whole.run

    pub admitted-theirs : students_in new ≡ students_of n
    admitted-theirs = ap students_in come.pushed ∙ students-push chains i come.chain ∙ ap (λ xs. xs ++ i ∷ []) admits.own ∙ sym more

    certified : (made : ℕ) → IsCertified (standing_of n given new made)
    certified made = certified-of n given (logs_in new) made well admitted-run come.placed

    -- all others keep their segments
    first-kept : take (length chains) (logs_in new) ≡ take (length chains) (logs_in chains)
    first-kept = ap (take (length chains)) logs ∙ take-append-le (length chains) (logs_in chains) (come.chain ∷ []) (omega (arith, length-map chains (λ (c : Chain). c.rejections)))

    at : length chains ≡ rewind_point m a
    at = many ∙ sym (entering.point m)

    -- outside the region everybody has what they had
    others : (made : ℕ) → KeepsOthers (standing_of m before chains proposals) a (standing_of n given new made)
    others made =
        let well_before = admits.sound.well_formed in
        let region = region_members m a in
        let tells = list-tells m a region (region-exact m a well_before admits.allowed) in
        keeps-others (standing_of m before chains proposals) (standing_of n given new made) a region tells admits.grown (λ j fails.
        sym (optimal-outside m (after m a) (is_among region) (assigned before) (assigned given) well_before (WellFormed-after m a well_before admits.allowed)
        (region-apart m a (is_among region) tells) (region-apart_after m a (is_among region) tells) (region-alike m a (is_among region) tells)
        admits.sound.optimal (subst (λ p. IsStudentOptimal p (assigned given)) admits.grown (certified made).optimal) j fails))

    -- the newcomer's turn is the only one that is counted
    one-turn : (test : ℕ → Bool) → test i ≡ true → AreTurnsOf n test (length chains) (length (logs_in new)) (length chains ∷ [])
    one-turn test passes =
        let end : length (logs_in new) ≡ length chains + 1 = omega (arith, admitted-run.one_each, admitted-last, length-students n) in (
          omega arith,
          omega (arith, end),
          λ t j from below here. absurd (omega (arith, from, below)),
          ap test (get_or_from_slice_get (students_of n) (length chains) i 0 there) ∙ passes,
          λ t j from below here. absurd (omega (arith, from, below, end)),
        )

    counts : (made : ℕ) → made ≡ made_at n (logs_in new) (length chains ∷ []) → CountsRegion m a (standing_of n given new made)
    counts made counted test tells =
        let apart = subst (λ p. whole.AreApart p test) (sym admits.grown) (region-apart_after m a test tells) in
        let turns = one-turn test ((tells i).1 (amended i entering.amended)) in
        let inside = made-inside n test (logs_in new) (length chains) (length chains ∷ []) well apart admitted-run (omega (arith, turns.1)) turns in
        let places : placed_of n test (matching_of n (joined (logs_in new))) ≡ placed_of n test (assigned given) = ap (placed_of n test) (λ t j. (sym (come.placed j)) t) in
        subst (λ k. CountsInside test k (standing_of n given new made)) at (omega (arith, counted, inside, places))

    pub admitted : (made : ℕ) → made ≡ made_at n (logs_in new) (length chains ∷ []) → IsAmended {E = AllocError} (Ok tt) (standing_of m before chains proposals) a (standing_of n given new made)
    admitted made counted = record {
      certified = certified made;
      accepted = admits.grown;
      stays = subst (λ k. take k (logs_in new) ≡ take k (logs_in chains)) at first-kept;
      others = others made;
      proposals = counts made counted;
      unchanged = tt;
    }

-- a standing whose parts are what they were
pub same-standing : {m p : Market} {chains same : List Chain} {before given : List (ℕ × ℕ)} → p ≡ m → given ≡ before → same ≡ chains → (proposals : ℕ) → standing_of p given same proposals ≡ standing_of m before chains proposals
same-standing papers places segments proposals = λ t. standing_of (papers t) (places t) (segments t) proposals

-- an amendment that found no memory
pub unamended : {E : Type 0} {old new : Standing} {a : Amendment} (refused : E) → new ≡ old → IsCertified new → IsAmended (Err refused) old a new
unamended refused same certified = record {
  certified = certified;
  accepted = tt;
  stays = tt;
  others = tt;
  proposals = tt;
  unchanged = same;
}
