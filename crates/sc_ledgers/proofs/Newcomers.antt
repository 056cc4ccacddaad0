-- The last student of the papers enters: the run of those before them goes on by one turn.
use Rattle.std.proofs.Common.{◌≡◌, inl, inr, refl, sym, subst, ◌∙◌, ℕ, ◌≤◌, ◌<◌, ◌+◌, false, List, [], ◌∷◌, ◌++◌, length, slice_get, Some, Contains, arith}
use Rattle.std.proofs.lemmas.Bool.{cases_eq}
use Rattle.std.proofs.lemmas.List.{length-map, length_push}
use Rattle.sc_papers.specs.Market.{Market, choices_of, students_of}
use Rattle.sc_papers.specs.WellFormed.{WellFormed}
use Rattle.sc_papers.specs.Key.{key_of}
use Rattle.sc_papers.specs.Log.{next_choice, IsSettled}
use Rattle.sc_papers.specs.Restriction as whole
use Rattle.sc_papers.specs.Restriction.{joined}
use Rattle.sc_papers.specs.declared.rejection.Rejection.{Rejection}
use Rattle.sc_papers.proofs.Cutting.{cut-all, cut-cut, length-students_cut}
use Rattle.sc_papers.proofs.Subsets as papers
use Rattle.sc_ledgers.specs.Cohort.{Cohort, cohort, cut, IsRunTo}
use Rattle.sc_ledgers.specs.Course.{Begins, Ended}
use Rattle.sc_ledgers.specs.Elsewhere.{AreStances, HasPut}
use Rattle.sc_ledgers.specs.Ledger.{log_at, AreLabelsBefore, AreOwn, HasAskedBy, StandsAt, Turns}
use Rattle.sc_ledgers.specs.Opening.{everybody}
use Rattle.sc_ledgers.specs.Whole.{AreWhole}
use Rattle.sc_ledgers.specs.declared.elsewhere.Stance.{Stance}
use Rattle.sc_ledgers.specs.declared.ledger.Label.{Label}
use Rattle.sc_ledgers.proofs.Changing.{before-turned}
use Rattle.sc_ledgers.proofs.Cohorts.{cut-everybody, run-more, run-settled}
use Rattle.sc_ledgers.proofs.Entry.{next-first, stances-enter_apart}
use Rattle.sc_ledgers.proofs.Sharing.{asked-shared, key-shared}

-- the papers, of whose students everybody enters
abbrev pub all_of : Market → Cohort
all_of m = cohort m everybody

-- the papers of the first so many students, of whom everybody enters, are those of as many first students of all
cut-few : (m : Market) (position t : ℕ) → WellFormed m → t ≤ position → cut (all_of (whole.cut m position)) t ≡ cut (all_of m) t
cut-few m position t well low =
    cut-everybody (all_of (whole.cut m position)) t (papers.well-cut m position well) (λ j. refl)
    ∙ cut-cut m t position low
    ∙ sym (cut-everybody (all_of m) t well (λ j. refl))

-- the papers of all students are the papers
cut-last : (m : Market) (position : ℕ) → WellFormed m → length m.students ≡ position + 1 → cut (all_of m) (position + 1) ≡ m
cut-last m position well last =
    cut-everybody (all_of m) (position + 1) well (λ j. refl)
    ∙ cut-all m (position + 1) (omega (arith, last, length-map m.students (λ e. e.0)))

module _ (m : Market) (position : ℕ) (segments : List (List Rejection)) (labels : ℕ → List Label) (well : WellFormed m) (last : length m.students ≡ position + 1) (given : AreWhole (all_of (whole.cut m position)) segments labels) where
  pub as_many : length segments ≡ position
  as_many = given.run.one_each ∙ length-students_cut m position (omega (arith, last, length-map m.students (λ e. e.0)))

  pub few-run : IsRunTo (all_of (whole.cut m position)) position segments
  few-run = subst (λ k. IsRunTo (all_of (whole.cut m position)) k segments) (length-students_cut m position (omega (arith, last, length-map m.students (λ e. e.0)))) given.run

  -- what is known of the run, in the words of all papers
  newer : IsRunTo (all_of m) position segments
  newer = record {
    one_each = as_many;
    settled = λ t low. subst (λ p. IsSettled p (log_at segments t)) (cut-few m position t well low) (given.run.settled t (omega (arith, low, as_many, given.run.one_each)));
  }

  asked-few : (t j s : ℕ) → t ≤ position → HasAskedBy (all_of m) segments t j s → HasAskedBy (all_of (whole.cut m position)) segments t j s
  asked-few t j s low asked = asked-shared (cut-few m position t well low) refl j s asked

  key-few : (t j s : ℕ) → t ≤ position → HasAskedBy (all_of m) segments t j s → key_of (whole.cut m position) j s ≡ key_of m j s
  key-few t j s low asked =
      key-shared (all_of m) (all_of (whole.cut m position)) t t j s (log_at segments t) well (papers.well-cut m position well) (cut-few m position t well low) (newer.settled t low).valid asked

  asked-all : (t j s : ℕ) → t ≤ position → HasAskedBy (all_of (whole.cut m position)) segments t j s → HasAskedBy (all_of m) segments t j s
  asked-all t j s low asked = asked-shared (sym (cut-few m position t well low)) refl j s asked

  before : AreLabelsBefore (all_of m) segments position labels
  before = record {
    exact = λ s label here low.
        let found = given.before.exact s label here (omega (arith, low, as_many)) in
        record {
          asked = asked-all (label.turn + 1) label.key.student s (omega (arith, low)) found.asked;
          not_before = λ asked. found.not_before (asked-few label.turn label.key.student s (omega (arith, low)) asked);
        };
    standing = λ t j s low stands.
        let there : StandsAt (all_of (whole.cut m position)) segments t j s = subst (λ p. next_choice p (log_at segments t) j ≡ Some s) (sym (cut-few m position t well low)) stands in
        let found = given.before.standing t j s (omega (arith, low, as_many)) there in
        (found.0, found.1, subst (λ key. Contains (labels s) (record { key = key; turn = found.0 })) (key-few t j s low (inl stands)) found.2);
  }

  own : AreOwn m labels
  own s label here =
      let low : label.turn < position = omega (arith, given.turns s label here, as_many) in
      given.own s label here ∙ key-few (label.turn + 1) label.key.student s (omega (arith, low)) (before.exact s label here low).asked

  -- the newcomer's turn begins
  pub begins-last : Begins (all_of m) segments position labels
  begins-last = record {
    well = well;
    within = omega (arith, last);
    turn = λ i at. refl;
    newer = newer;
    as_many = as_many;
    before = before;
    none = λ s label here same. omega (arith, given.turns s label here, as_many, same);
    own = own;
  }

  -- and once their chain has ended, the run is whole
  pub whole-last : (i : ℕ) (chain : List Rejection) (now : ℕ → List Label) → slice_get (students_of m) position ≡ Some i → Ended (all_of m) segments position chain labels now → AreWhole (all_of m) (segments ++ chain ∷ []) now
  whole-last i chain now there ended = record {
    run = subst (λ k. IsRunTo (all_of m) k (segments ++ chain ∷ [])) (omega (arith, last, length-map m.students (λ e. e.0))) (run-more (all_of m) position segments chain newer ended.settled);
    before = subst (λ k. AreLabelsBefore (all_of m) (segments ++ chain ∷ []) k now) (omega (arith, length_push segments chain, as_many)) (before-turned turns-last);
    turns = λ s label here. elim (cases_eq label.turn position) [
      | inl same ↦ omega (arith, same, length_push segments chain, as_many)
      | inr other ↦ omega (arith, given.turns s label (ended.relabels.others s label here other), length_push segments chain)
    ];
    own = ended.own;
  }
    where
      -- there is no older run
      turns-last : Turns (all_of m) (all_of m) [] segments position i chain labels now (λ j. false)
      turns-last = record {
        well = well;
        here = there;
        newer = newer;
        as_many = as_many;
        before = before;
        from = record {
          exact = λ s label here high. absurd (omega (arith, given.turns s label here, as_many, high));
          complete = λ t j s high low other unasked stands unasked_old. absurd (omega (arith, low));
        };
        settled = ended.settled;
        relabels = ended.relabels;
      }

  -- the stances once the newcomer stands at their first choice, before their chain
  pub stances-last : (i : ℕ) (put : List Stance) → slice_get (students_of m) position ≡ Some i → HasPut [] put (record { student = i; old = slice_get (choices_of m i) 0; new = slice_get (choices_of m i) 0 }) → AreStances (cut (all_of m) (position + 1)) (cut (all_of m) (position + 1)) (joined segments) (joined segments) put
  stances-last i put here puts =
      let first = next-first (all_of m) position i well here refl (joined segments) (run-settled (all_of m) position segments newer).valid in
      stances-enter_apart (all_of m) (all_of m) position i (joined segments) (joined segments) [] put (record { student = i; old = slice_get (choices_of m i) 0; new = slice_get (choices_of m i) 0 }) (record { well_m = well; well_n = well; here_m = here; here_n = here }) refl first first puts
      (record {
        old = λ x none. absurd (omega (arith, none.1));
        new = λ x none. absurd (omega (arith, none.1));
        alike = λ j none. refl;
      })

-- after the last turn the stances are those of all papers
pub stances-whole : (m : Market) (position : ℕ) (log other : List Rejection) (list : List Stance) → WellFormed m → length m.students ≡ position + 1 → AreStances (cut (all_of m) (position + 1)) (cut (all_of m) (position + 1)) log other list → AreStances m m log other list
stances-whole m position log other list well last stances = subst (λ p. AreStances p p log other list) (cut-last m position well last) stances
