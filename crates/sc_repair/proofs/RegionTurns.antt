-- A region of students and schools before and after an amendment: who lists its schools, the turns of its students by their marks, and the
-- labels that are left once those of who is amended are struck.
use Rattle.std.proofs.Common.{◌≡◌, inl, inr, refl, ap, sym, subst, ◌∙◌, ℕ, zero, suc, ◌+◌, ◌<◌, ◌==◌, ◌&&◌, ◌||◌, nat_eq, Bool, true, false, List, [], ◌∷◌, length, get_or, Option, Some, None, Contains, position, arith}
use Rattle.std.specs.List.{list_any}
use Rattle.std.specs.Option.{option_map_or}
use Rattle.std.proofs.lemmas.Bool.{and_from, and_parts, cases_Bool, cases_eq, cond-false, cond-true, eq-eqb, eqb-true, false≢true, false_from_ne_true, or_cases, or_left, or_right}
use Rattle.std.proofs.lemmas.Map.Views.{Contains-from_any}
use Rattle.std.proofs.lemmas.Option.{get_or_from_slice_get, none-some}
use Rattle.std.proofs.lemmas.List.Folds.{list_any_at}
use Rattle.sc_papers.specs.Market.{Market, choices_of, schools_of, student_at, student_of, students_of}
use Rattle.sc_papers.specs.Restriction.{AreApart}
use Rattle.sc_papers.specs.WellFormed.{WellFormed}
use Rattle.sc_papers.specs.declared.amendment.Amendment.{Amendment}
use Rattle.sc_papers.specs.declared.amendment.Amendment.TheVariants.{Enter, Withdraw, Rerank, Add, Close, Correct}
use Rattle.sc_papers.specs.declared.records.Student.{Student}
use Rattle.sc_papers.specs.declared.rejection.Rejection.{Rejection}
use Rattle.sc_papers.specs.Verdict.{after}
use Rattle.sc_papers.proofs.Students.{lister-among}
use Rattle.sc_region.specs.Region.{amended_school, amended_student, concerned}
use Rattle.sc_ledgers.specs.Cohort.{cohort}
use Rattle.sc_ledgers.specs.Course.{labels_at, labels_of, AreTogether}
use Rattle.sc_ledgers.specs.Elsewhere.{is_same}
use Rattle.sc_ledgers.specs.Opening.{everybody}
use Rattle.sc_ledgers.specs.Renewed.{AreTurnsOf, NoneBetween}
use Rattle.sc_ledgers.specs.Sweep.{is_amended, IsRegion}
use Rattle.sc_ledgers.specs.declared.ledger.Label.{Label}
use Rattle.sc_ledgers.specs.declared.opened.Ledgers.{Ledgers}
use Rattle.sc_ledgers.proofs.Beginnings.{all-gone}
use Rattle.sc_stamps.specs.Record.{record_of}
use Rattle.sc_repair.specs.Anew.{school_in, student_in, AreLedgersOf, IsStruck}
use Rattle.sc_repair.specs.Locality.{marked_within, TellsRegion}
use Rattle.sc_repair.specs.Rewinding.{lists}
use Rattle.sc_repair.proofs.Regional.{region-alike, region-apart, region-apart_after, student-outside}
use Rattle.sc_engine.proofs.InOrder.{any-turned}

-- Who lists the schools of a region.

-- whether somebody who passes lists a school
abbrev pub listed_by : Market → (ℕ → Bool) → ℕ → Bool
listed_by m test s = list_any (λ j. test j && lists m s j) (students_of m)

-- the schools of a region: somebody who passes lists them, before or after, or their seats are amended
abbrev pub inner_of : Market → Market → (ℕ → Bool) → Option ℕ → ℕ → Bool
inner_of m n test seated s = (listed_by m test s || listed_by n test s) || is_same seated (Some s)

-- whether a student lists a school, asked either way
listed-found : (xs : List ℕ) (s : ℕ) → list_any (λ t. t == s) xs ≡ true → Contains xs s
listed-found xs s found = Contains-from_any eqb-true s xs (any-turned xs s ∙ found)

listed-told : (xs : List ℕ) (s : ℕ) → Contains xs s → list_any (λ t. t == s) xs ≡ true
listed-told xs s (place, low, at) = list_any_at (λ t. t == s) xs place s low (eq-eqb (get_or xs place s) s at)

-- a school that one who passes lists is listed by one who passes, and the other way round
listed-here : (m : Market) (test : ℕ → Bool) (j s : ℕ) → test j ≡ true → Contains (choices_of m j) s → listed_by m test s ≡ true
listed-here m test j s passes listed =
    let (place, low, at) = lister-among m j s listed in
    list_any_at (λ i. test i && lists m s i) (students_of m) place j low
    (ap (λ i. test i && lists m s i) at ∙ and_from (test j) (lists m s j) passes (listed-told (choices_of m j) s listed))

lister-of : (m : Market) (test : ℕ → Bool) (s : ℕ) (students : List ℕ) → list_any (λ j. test j && lists m s j) students ≡ true → (j : ℕ) × (test j ≡ true) × Contains (choices_of m j) s
lister-of m test s [] found = absurd (false≢true found)
lister-of m test s (i ∷ students) found = elim (or_cases (test i && lists m s i) (list_any (λ j. test j && lists m s j) students) found) [
  | inl here ↦ let (passes, listed) = and_parts (test i) (lists m s i) here in (i, passes, listed-found (choices_of m i) s listed)
  | inr later ↦ lister-of m test s students later
]

-- the one that is the same as some number
pub same-some : (o : Option ℕ) (s : ℕ) → is_same o (Some s) ≡ true → o ≡ Some s
same-some None s same = absurd (false≢true same)
same-some (Some t) s same = ap Some (eqb-true t s same)

pub some-same : (o : Option ℕ) (s : ℕ) → o ≡ Some s → is_same o (Some s) ≡ true
some-same o s is = subst (λ found. is_same found (Some s) ≡ true) (sym is) (eq-eqb s s refl)

-- a region lies apart, before and after: outside of it all choices stay, and whoever lists the school whose seats are amended is in it
pub record LiesApart (m n : Market) (test : ℕ → Bool) (seated : Option ℕ) : Type 0 where
  pub before : AreApart m test
  pub after : AreApart n test
  pub same : (j : ℕ) → test j ≡ false → choices_of n j ≡ choices_of m j
  pub listers : (s j : ℕ) → seated ≡ Some s → Contains (choices_of m j) s → test j ≡ true

module _ {m n : Market} {test : ℕ → Bool} {seated : Option ℕ} (apart : LiesApart m n test seated) where
  -- nobody outside lists a school of the region
  none-outside : (j s : ℕ) → test j ≡ false → Contains (choices_of m j) s → inner_of m n test seated s ≡ true → ⊥
  none-outside j s fails listed inside = elim (or_cases (listed_by m test s || listed_by n test s) (is_same seated (Some s)) inside) [
    | inl by ↦ elim (or_cases (listed_by m test s) (listed_by n test s) by) [
      | inl old ↦ let (i, passes, its) = lister-of m test s (students_of m) old in apart.before.none_shared i j s passes fails its listed
      | inr new ↦
          let (i, passes, its) = lister-of n test s (students_of n) new in
          apart.after.none_shared i j s passes fails its (subst (λ xs. Contains xs s) (sym (apart.same j fails)) listed)
    ]
    | inr same ↦ false≢true (sym fails ∙ apart.listers s j (same-some seated s same) listed)
  ]

  together-old : AreTogether m test (inner_of m n test seated)
  together-old j s listed = elim (cases_Bool (test j)) [
    | inl passes ↦
        or_left (listed_by m test s || listed_by n test s) (is_same seated (Some s)) (or_left (listed_by m test s) (listed_by n test s) (listed-here m test j s passes listed))
        ∙ sym passes
    | inr fails ↦ false_from_ne_true (inner_of m n test seated s) (none-outside j s fails listed) ∙ sym fails
  ]

  together-new : AreTogether n test (inner_of m n test seated)
  together-new j s listed = elim (cases_Bool (test j)) [
    | inl passes ↦
        or_left (listed_by m test s || listed_by n test s) (is_same seated (Some s)) (or_right (listed_by m test s) (listed_by n test s) (listed-here n test j s passes listed))
        ∙ sym passes
    | inr fails ↦
        false_from_ne_true (inner_of m n test seated s) (none-outside j s fails (subst (λ xs. Contains xs s) (apart.same j fails) listed)) ∙ sym fails
  ]

  pub region-of : (amended : Option ℕ) → ((j : ℕ) → is_amended amended j ≡ true → test j ≡ true) → IsRegion m n amended test (inner_of m n test seated)
  region-of amended theirs = record { old = together-old; new = together-new; theirs = theirs }

-- the school whose seats are amended is one of the region
pub seated-inner : (m n : Market) (test : ℕ → Bool) (seated : Option ℕ) (s : ℕ) → seated ≡ Some s → inner_of m n test seated s ≡ true
seated-inner m n test seated s is = or_right (listed_by m test s || listed_by n test s) (is_same seated (Some s)) (some-same seated s is)

-- whose seats an amendment amends
pub school-amended : (a : Amendment) → school_in (record_of a) ≡ amended_school a
school-amended (Enter i zone siblings choices continuing) = refl
school-amended (Withdraw i) = refl
school-amended (Rerank i choices) = refl
school-amended (Add s count) = refl
school-amended (Close s count) = refl
school-amended (Correct i zone siblings continuing) = refl

-- and whom it amends
pub student-amended : (a : Amendment) → student_in (record_of a) ≡ amended_student a
student-amended (Enter i zone siblings choices continuing) = refl
student-amended (Withdraw i) = refl
student-amended (Rerank i choices) = refl
student-amended (Add s count) = refl
student-amended (Close s count) = refl
student-amended (Correct i zone siblings continuing) = refl

-- so lies the region of an amendment, between the papers before it and those after it
pub choices-outside : (m n : Market) (j : ℕ) → student_of n j ≡ student_of m j → choices_of n j ≡ choices_of m j
unfolding choices_of
choices-outside m n j same = ap (λ (found : Option Student). option_map_or (λ student. student.choices) found []) same

pub lies-apart : (m : Market) (a : Amendment) (test : ℕ → Bool) → TellsRegion m a test → LiesApart m (after m a) test (school_in (record_of a))
lies-apart m a test tells = record {
  before = region-apart m a test tells;
  after = region-apart_after m a test tells;
  same = λ j fails. choices-outside m (after m a) j (student-outside m (after m a) test j (region-alike m a test tells) fails);
  listers = λ s j is listed. (tells j).1 (concerned j s (sym (school-amended a) ∙ is) (inl listed));
}

-- and between papers that do not change yet
pub lies-still : (m : Market) (a : Amendment) (test : ℕ → Bool) → TellsRegion m a test → LiesApart m m test None
lies-still m a test tells = record {
  before = region-apart m a test tells;
  after = region-apart m a test tells;
  same = λ j fails. refl;
  listers = λ s j none. absurd (none-some s none);
}

-- The turns of the students of a region, by their marks.

-- one turn more, whose student does not pass
none-before : (n : Market) (test : ℕ → Bool) (from end : ℕ) → test (student_at n from) ≡ false → NoneBetween n test (from + 1) end → NoneBetween n test from end
none-before n test from end fails none t i low high here = elim (cases_eq t from) [
  | inl same ↦ ap test (sym (get_or_from_slice_get (students_of n) t i 0 here) ∙ ap (student_at n) same) ∙ fails
  | inr later ↦ none t i (omega (arith, low, later)) high here
]

turns-before : (n : Market) (test : ℕ → Bool) (from end : ℕ) (positions : List ℕ) → test (student_at n from) ≡ false → AreTurnsOf n test (from + 1) end positions → AreTurnsOf n test from end positions
turns-before n test from end [] fails none = none-before n test from end fails none
turns-before n test from end (p ∷ positions) fails (low, high, none, passes, rest) = (omega (arith, low), high, none-before n test from p fails none, passes, rest)

-- marks that tell who passes tell whose turns they are
pub turns-of : (n : Market) (test : ℕ → Bool) (marks : List Bool) (end from count : ℕ) → from + count ≡ end → ((p : ℕ) → p < end → get_or marks p false ≡ test (student_at n p)) → AreTurnsOf n test from end (marked_within marks from count)
turns-of n test marks end from zero all told = λ t i low high here. absurd (omega (arith, all, low, high))
turns-of n test marks end from (suc count) all told =
    let rest = turns-of n test marks end (from + 1) count (omega (arith, all)) told in
    let low : from < end = omega (arith, all) in
    elim (cases_Bool (get_or marks from false)) [
      | inl marked ↦
          subst (AreTurnsOf n test from end) (sym (cond-true (get_or marks from false) (from ∷ marked_within marks (from + 1) count) (marked_within marks (from + 1) count) marked))
          (omega arith, low, λ t i start before here. absurd (omega (arith, start, before)), sym (told from low) ∙ marked, rest)
      | inr other ↦
          subst (AreTurnsOf n test from end) (sym (cond-false (get_or marks from false) (from ∷ marked_within marks (from + 1) count) (marked_within marks (from + 1) count) other))
          (turns-before n test from end (marked_within marks (from + 1) count) (sym (told from low) ∙ other) rest)
    ]

-- The labels that are left once those of who is amended are struck.

pub record AreLeft (amended : Option ℕ) (labels left : ℕ → List Label) : Type 0 where
  pub kept : (s : ℕ) (label : Label) → Contains (labels s) label → is_amended amended label.key.student ≡ false → Contains (left s) label
  pub only : (s : ℕ) (label : Label) → Contains (left s) label → Contains (labels s) label
  pub gone : (s : ℕ) (label : Label) → Contains (left s) label → is_amended amended label.key.student ≡ false

pub struck-left : (m n : Market) (segments : List (List Rejection)) (amended : Option ℕ) (ledgers : Ledgers) (left : List (List Label)) → WellFormed m → schools_of n ≡ schools_of m → AreLedgersOf m segments ledgers → IsStruck m amended ledgers.schools.items left → AreLeft amended (labels_of m ledgers.schools.items) (labels_of n left)
struck-left m n segments None ledgers left well schools are struck =
    let same : labels_of n left ≡ labels_of m ledgers.schools.items = λ t s. labels_at (struck t) (position (nat_eq s) (schools t)) in
    record {
      kept = λ s label here other. subst (λ (of : ℕ → List Label). Contains (of s) label) (sym same) here;
      only = λ s label here. subst (λ (of : ℕ → List Label). Contains (of s) label) same here;
      gone = λ s label here. refl;
    }
struck-left m n segments (Some i) ledgers left well schools are struck =
    let same : labels_of n left ≡ labels_of m left = λ t s. labels_at left (position (nat_eq s) (schools t)) in
    record {
      kept = λ s label here other. subst (λ (of : ℕ → List Label). Contains (of s) label) (sym same)
          (struck.kept s label here (λ own. false≢true (sym other ∙ eq-eqb i label.key.student (sym own))));
      only = λ s label here. struck.only s label (subst (λ (of : ℕ → List Label). Contains (of s) label) same here);
      gone = λ s label here. false_from_ne_true (i == label.key.student) (λ own.
          all-gone (cohort m everybody) (length (students_of m)) segments (labels_of m ledgers.schools.items) (labels_of m left) i well are.whole.run are.whole.before are.whole.turns are.whole.own struck s label
          (subst (λ (of : ℕ → List Label). Contains (of s) label) same here) (sym (eqb-true i label.key.student own)));
    }
