-- A region that is settled anew by the ledgers.
use Rattle.std.specs.Prelude.{◌≡◌, ◌==◌, ℕ, Bool, false, List, [], Option, None, Some, length, nat_eq, position, take, if◌then◌else◌}
use Rattle.sc_papers.specs.Assignment.{assigned}
use Rattle.sc_papers.specs.Log.{next_choice}
use Rattle.sc_papers.specs.Market.{Market, choices_of, schools_of}
use Rattle.sc_papers.specs.Restriction.{joined}
use Rattle.sc_papers.specs.declared.rejection.Rejection.{Rejection}
use Rattle.sc_checkpoint.specs.Chains.{logs_in, students_in, Chain}
use Rattle.sc_ledgers.specs.Cohort.{cohort, cut}
use Rattle.sc_ledgers.specs.Course.{labels_of, AreGone}
use Rattle.sc_ledgers.specs.Elsewhere.{cohort_of}
use Rattle.sc_ledgers.specs.Ends.{AreEnds}
use Rattle.sc_ledgers.specs.Opening.{everybody}
use Rattle.sc_ledgers.specs.Whole.{AreWhole}
use Rattle.sc_ledgers.specs.declared.following.Rows.{Rows}
use Rattle.sc_ledgers.specs.declared.ledger.Label.{Label}
use Rattle.sc_ledgers.specs.declared.opened.Ledgers.{Ledgers}
use Rattle.sc_papers.specs.declared.amendment.Amendment.{Amendment}
use Rattle.sc_papers.specs.declared.amendment.Amendment.TheVariants.{Rerank}
use Rattle.sc_stamps.specs.declared.record.Record.{Record}
use Rattle.sc_stamps.specs.declared.record.Record.TheVariants.{OfStudent, OfSchool}

-- the ledgers, one for each school, are those of the log in these segments, and each turn ended where they tell
pub record AreLedgersOf (m : Market) (segments : List (List Rejection)) (ledgers : Ledgers) : Type 0 where
  pub one_each : length ledgers.schools.items ≡ length m.schools
  pub whole : AreWhole (cohort m everybody) segments (labels_of m ledgers.schools.items)
  pub ended : AreEnds m segments ledgers.ends

-- everybody has the place that the log gives them
abbrev pub HavePlaces : Market → List (List Rejection) → List (ℕ × ℕ) → Type 0
HavePlaces m segments places = (i : ℕ) → assigned places i ≡ next_choice m (joined segments) i

-- the student whom a record is of, if it is a student's
abbrev pub student_in : Record → Option ℕ
student_in (OfStudent i) = Some i
student_in (OfSchool s) = None

-- the labels of a student are gone at each of their choices, if there is one; all others are left
abbrev pub IsStruck : Market → Option ℕ → List (List Label) → List (List Label) → Type 0
IsStruck m None labels left = left ≡ labels
IsStruck m (Some i) labels left = AreGone m i (length (choices_of m i)) (labels_of m labels) (labels_of m left)

-- a region was settled anew: the segments, the labels and the ends are a run of the papers, of whoever enters, and give everybody their place; those
-- before the point have their segments still, and whoever does not pass has their place
pub record IsSettledAnew (rows : Rows) (test : ℕ → Bool) (point : ℕ) (old new : List Chain) (places after : List (ℕ × ℕ)) (labels : ℕ → List Label) (ends : List (Option ℕ)) : Type 0 where
  pub whole : AreWhole (cohort_of rows) (logs_in new) labels
  pub ended : AreEnds rows.papers.now (logs_in new) ends
  pub theirs : students_in new ≡ students_in old
  pub stays : take point (logs_in new) ≡ take point (logs_in old)
  pub placed : HavePlaces (cut (cohort_of rows) (length old)) (logs_in new) after
  pub others : (i : ℕ) → test i ≡ false → assigned after i ≡ assigned places i

-- the position of the school whose seats are amended, if the record is a school's
abbrev pub place_in : Market → Record → Option ℕ
place_in m (OfStudent i) = None
place_in m (OfSchool s) = position (nat_eq s) (schools_of m)

-- the choices that a student had before an amendment, by what takes it back and the papers that it led to
abbrev pub choices_before : Market → Amendment → Option ℕ → List ℕ
choices_before n back None = []
choices_before n (Rerank j choices) (Some i) = if j == i then choices else choices_of n i
choices_before n back (Some i) = choices_of n i

-- the school that is amended, if the record is a school's
abbrev pub school_in : Record → Option ℕ
school_in (OfStudent i) = None
school_in (OfSchool s) = Some s
