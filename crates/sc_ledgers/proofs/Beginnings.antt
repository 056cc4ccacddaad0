-- What is known before the first turn of a sweep.
use Rattle.std.proofs.Common.{◌≡◌, inl, inr, refl, ap, sym, subst, ◌∙◌, ℕ, ◌+◌, ◌≤◌, ◌<◌, ◌==◌, ◌&&◌, ◌||◌, not, Bool, true, false, List, [], length, take, Option, Some, None, Contains, arith}
use Rattle.std.proofs.lemmas.Bool.{and_parts, eq-eqb, false≢true}
use Rattle.std.proofs.lemmas.Option.{none-some, slice_get-get_or}
use Rattle.std.specs.List.{list_any}
use Rattle.std.specs.Option.{option_map_or}
use Rattle.std.specs.Map.{lookup}
use Rattle.std.specs.Prelude.{find, nat_eq}
use Rattle.std.proofs.lemmas.List.{length-take-le, take-take}
use Rattle.sc_papers.specs.Market.{Market, choices_of, students_of}
use Rattle.sc_papers.specs.Restriction.{is_among_first, joined, AlikeUpTo}
use Rattle.sc_papers.specs.Restriction as whole
use Rattle.sc_papers.specs.declared.records.Student.{Student}
use Rattle.sc_papers.proofs.Rewinding.{settled-rewound}
use Rattle.sc_papers.proofs.Subsets.{next-passes}
use Rattle.sc_papers.specs.WellFormed.{WellFormed}
use Rattle.sc_papers.specs.Key.{key_of}
use Rattle.sc_papers.specs.Log.{is_rejected, next_choice, IsSettled, IsValidLog}
use Rattle.sc_papers.specs.declared.rejection.Rejection.{Rejection}
use Rattle.sc_papers.proofs.Counting.{contains-cons}
use Rattle.sc_papers.proofs.Rejections.{rejected-push_cases}
use Rattle.sc_papers.proofs.Validity.{along, next-listed}
use Rattle.sc_ledgers.specs.Cohort.{Cohort, cut, IsRunTo}
use Rattle.sc_ledgers.specs.Course.{AreGone}
use Rattle.sc_ledgers.specs.Elsewhere.{cohort_of, is_aside}
use Rattle.sc_ledgers.specs.Ledger.{log_at, AreLabelsBefore, AreOwn, HasAsked, StandsAt, StartsAt}
use Rattle.sc_ledgers.specs.Marks.{marked_in, Marking}
use Rattle.sc_ledgers.specs.Sweep.{first_stances, is_amended, IsSwept}
use Rattle.sc_ledgers.specs.declared.elsewhere.Stance.{Stance}
use Rattle.sc_ledgers.specs.declared.following.Rows.{Rows}
use Rattle.sc_ledgers.specs.declared.ledger.Label.{Label}
use Rattle.sc_ledgers.proofs.Cohorts.{choices-entered, cut-everybody, cut-first, first-students, lister-entered}
use Rattle.sc_ledgers.proofs.Starting.{turn-starts}

-- the first stance is that of who is amended, who stands nowhere yet
pub only-first : (amended : Option ℕ) (x : Stance) → Contains (first_stances amended) x → (is_amended amended x.student ≡ true) × (x.old ≡ None) × (x.new ≡ None)
only-first None x here = absurd (omega (arith, here.1))
only-first (Some i) x here = elim (contains-cons (record { student = i; old = None; new = None }) [] x here) [
  | inl same ↦ (eq-eqb i x.student (ap (λ y. y.student) same), sym (ap (λ y. y.old) same), sym (ap (λ y. y.new) same))
  | inr later ↦ absurd (omega (arith, later.1))
]

held-first : (amended : Option ℕ) (j : ℕ) → is_amended amended j ≡ true → is_aside (first_stances amended) j ≡ true
held-first None j is = absurd (false≢true is)
held-first (Some i) j is = or-true (i == j) is
  where
    or-true : (b : Bool) → b ≡ true → (b || false) ≡ true
    or-true true same = refl
    or-true false same = absurd (false≢true same)

pub sweep-starts : {m : Cohort} (rows : Rows) {reseated : ℕ → Bool} {old : List (List Rejection)} {k : ℕ} {labels started : ℕ → List Label} (marks : Marking) → StartsAt m (cohort_of rows) old k labels started (marked_in rows.papers.now marks.flags) (is_amended rows.amended) (is_amended rows.amended)
    → AreOwn rows.papers.now started → ((s : ℕ) (label : Label) → Contains (started s) label → is_amended rows.amended label.key.student ≡ false) → ((s : ℕ) → reseated s ≡ true → marked_in rows.papers.now marks.flags s ≡ true)
    → IsSwept m (cohort_of rows) rows.amended old (take k old) k started (first_stances rows.amended) (marked_in rows.papers.now marks.flags) reseated
sweep-starts {m} rows {reseated} {old} {k} {labels} {started} marks given own struck always =
    let at = turn-starts given in
    record {
      newer = at.newer;
      as_many = at.as_many;
      labels_before = at.before;
      labels_from = at.from;
      own = own;
      others = λ s label here late. struck s label here;
      stances = record {
        old = λ x here. let (is, was, now) = only-first rows.amended x here in nowhere x.student is ∙ sym was;
        new = λ x here. let (is, was, now) = only-first rows.amended x here in given.next k x.student (log_at old k) (omega arith) ∙ nowhere x.student is ∙ sym now;
        alike = λ j absent. given.next k j (log_at old k) (omega arith);
      };
      held = held-first rows.amended;
      apart = λ x here beside same. absurd (false≢true (sym beside ∙ (only-first rows.amended x here).0));
      at_marked = record {
        old = λ x s here is. absurd (none-some s (sym (only-first rows.amended x here).1 ∙ is));
        new = λ x s here is. absurd (none-some s (sym (only-first rows.amended x here).2 ∙ is));
      };
      always = always;
    }
  where
    nowhere : (j : ℕ) → is_amended rows.amended j ≡ true → next_choice (cut m k) (log_at old k) j ≡ None
    nowhere j is = go (next_choice (cut m k) (log_at old k) j) refl
      where
        go : (found : Option ℕ) → next_choice (cut m k) (log_at old k) j ≡ found → found ≡ None
        go None next = refl
        go (Some s) next = absurd (false≢true (sym (given.others k j s (omega arith) next) ∙ is))

-- whom a valid log rejects lists the school
rejected-listed : (n : Market) (log : List Rejection) → IsValidLog n log → (i s : ℕ) → is_rejected log i s ≡ true → Contains (choices_of n i) s
rejected-listed n log valid =
    along n (λ l. (i s : ℕ) → is_rejected l i s ≡ true → Contains (choices_of n i) s)
    (λ l e entry before i s rejected. elim (rejected-push_cases l e i s rejected) [
      | inl earlier ↦ before i s earlier
      | inr (student, school) ↦ subst (λ t. Contains (choices_of n i) t) school (subst (λ j. Contains (choices_of n j) e.school) student (next-listed n l e.student e.school entry.next))
    ]) [] log (λ i s none. absurd (false≢true none)) valid

-- whoever has asked a school lists it
asked-listed : (m : Cohort) (k : ℕ) (log : List Rejection) (j s : ℕ) → WellFormed m.papers → IsValidLog (cut m k) log → HasAsked (cut m k) log j s → Contains (choices_of m.papers j) s
asked-listed m k log j s well valid asked =
    let listed : Contains (choices_of (cut m k) j) s = elim asked [
      | inl next ↦ next-listed (cut m k) log j s next
      | inr rejected ↦ rejected-listed (cut m k) log valid j s rejected
    ] in
    subst (λ xs. Contains xs s) (choices-entered m k j well (lister-entered m k j s well listed)) listed

-- once a student's labels are gone at all of their choices, none of theirs is left
pub all-gone : (m : Cohort) (to : ℕ) (old : List (List Rejection)) (labels left : ℕ → List Label) (i : ℕ) → WellFormed m.papers → IsRunTo m to old → AreLabelsBefore m old (length old) labels → ((s : ℕ) (label : Label) → Contains (labels s) label → label.turn < length old) → AreOwn m.papers labels → AreGone m.papers i (length (choices_of m.papers i)) labels left
    → (s : ℕ) (label : Label) → Contains (left s) label → label.key.student ≡ i → ⊥
all-gone m to old labels left i well run before turns own gone s label here same =
    let was = gone.only s label here in
    let exact = before.exact s label was (turns s label was) in
    let low : label.turn + 1 ≤ to = omega (arith, turns s label was, run.one_each) in
    let listed : Contains (choices_of m.papers i) s = subst (λ j. Contains (choices_of m.papers j) s) same
    (asked-listed m (label.turn + 1) (log_at old (label.turn + 1)) label.key.student s well (run.settled (label.turn + 1) low).valid exact.asked) in
    gone.none listed.0 s label listed.1 (slice_get-get_or (choices_of m.papers i) listed.0 s listed.1 ∙ ap Some listed.2) here (own s label was ∙ ap (λ j. key_of m.papers j s) same)

-- papers whose first students are the same give them the same choices
next-alike : (m n : Market) (t : ℕ) → take t n.students ≡ take t m.students → (log : List Rejection) (j : ℕ) → next_choice (whole.cut n t) log j ≡ next_choice (whole.cut m t) log j
unfolding next_choice choices_of whole.cut
next-alike m n t same log j = ap (λ (students : List (ℕ × Student)). find (λ s. not (is_rejected log j s)) (option_map_or (λ (student : Student). student.choices) (lookup (nat_eq j) students) [])) same

-- what is known where an amendment's rewind point is, of the old papers and of the new ones
pub record Rewinds (m : Cohort) (rows : Rows) (old : List (List Rejection)) (k : ℕ) (labels started : ℕ → List Label) : Type 0 where
  pub well_m : WellFormed m.papers
  pub well_n : WellFormed rows.papers.now
  pub students : students_of rows.papers.now ≡ students_of m.papers
  pub older : IsRunTo m (length (students_of m.papers)) old
  pub all : (j : ℕ) → m.enters j ≡ true
  pub within : k ≤ length old
  pub alike : (t : ℕ) → t ≤ k → AlikeUpTo t m.papers rows.papers.now
  pub first : (t j : ℕ) → t ≤ k → is_among_first m.papers t j ≡ true → is_amended rows.amended j ≡ false
  pub whole : AreLabelsBefore m old (length old) labels
  pub turns : (s : ℕ) (label : Label) → Contains (labels s) label → label.turn < length old
  pub kept : (s : ℕ) (label : Label) → Contains (labels s) label → is_amended rows.amended label.key.student ≡ false → Contains (started s) label
  pub only : (s : ℕ) (label : Label) → Contains (started s) label → Contains (labels s) label
  pub keys : (j s : ℕ) → is_amended rows.amended j ≡ false → key_of rows.papers.now j s ≡ key_of m.papers j s

module _ {m : Cohort} {rows : Rows} {old : List (List Rejection)} {k : ℕ} {labels started : ℕ → List Label} (given : Rewinds m rows old k labels started) where
  -- whoever is among the first ones enters in the new run too
  new-cut : (t : ℕ) → t ≤ k → cut (cohort_of rows) t ≡ whole.cut rows.papers.now t
  new-cut t low = cut-first (cohort_of rows) t given.well_n (λ j among.
      ap (λ b. not (rows.leaves && b)) (given.first t j low (ap (λ xs. list_any (λ x. x == j) (take t xs)) (sym given.students) ∙ among)) ∙ ap not (and-false rows.leaves))
    where
      and-false : (b : Bool) → (b && false) ≡ false
      and-false true = refl
      and-false false = refl

  stood : (t j s : ℕ) → t ≤ k → StandsAt m old t j s → is_amended rows.amended j ≡ false
  stood t j s low stands = given.first t j low (and_parts (is_among_first m.papers t j) (m.enters j) (next-passes (first-students m t given.well_m) (log_at old t) j s stands)).0

  pub starts-at : (marked : ℕ → Bool) → StartsAt m (cohort_of rows) old k labels started marked (is_amended rows.amended) (is_amended rows.amended)
  starts-at marked = record {
    well = given.well_m;
    older = given.older;
    within = given.within;
    newer = record {
      one_each = length-take-le k old given.within;
      settled = λ t low.
          subst (IsSettled (cut (cohort_of rows) t)) (sym (ap joined (take-take t k old low)))
          (subst (λ p. IsSettled p (joined (take t old))) (sym (new-cut t low))
          (settled-rewound m.papers rows.papers.now t (joined (take t old)) (given.alike t low)
          (subst (λ p. IsSettled p (joined (take t old))) (cut-everybody m t given.well_m given.all) (given.older.settled t (omega (arith, low, given.within, given.older.one_each))))));
    };
    next = λ t j log low.
        ap (λ p. next_choice p log j) (new-cut t low) ∙ next-alike m.papers rows.papers.now t (given.alike t low).students log j ∙ ap (λ p. next_choice p log j) (sym (cut-everybody m t given.well_m given.all));
    whole = given.whole;
    turns = given.turns;
    kept = given.kept;
    only = given.only;
    keys = given.keys;
    apart = λ j s is stands. absurd (false≢true (sym (stood k j s (omega arith) stands) ∙ is));
    others = λ t j s low stands. stood t j s low stands;
  }
