-- What a contract sees of settled papers.
use Rattle.std.specs.Prelude.{◌≡◌, ℕ, ◌+◌, Bool, true, List, length, take, drop, Option, None, Some, Result, Ok, Err, OnOk, OnErr, if◌then◌else◌}
use Rattle.sc_papers.specs.Assignment.{assigned}
use Rattle.sc_papers.specs.Log.{matching_of as gives, next_choice, IsSettled}
use Rattle.sc_papers.specs.Market.{Market, is_student, is_school, students_of}
use Rattle.sc_papers.specs.Matching.{Matching, held, IsStudentOptimal}
use Rattle.sc_papers.specs.Progress.{placed}
use Rattle.sc_papers.specs.Restriction.{cut, joined, IsSegmented}
use Rattle.sc_papers.specs.Verdict.{after}
use Rattle.sc_papers.specs.WellFormed.{WellFormed}
use Rattle.sc_papers.specs.declared.amendment.Amendment.{Amendment}
use Rattle.sc_papers.specs.declared.amendment.Refusal.{Refusal}
use Rattle.sc_papers.specs.declared.rejection.Rejection.{Rejection}
use Rattle.sc_region.specs.Region.{InRegion}
use Rattle.sc_weave.specs.Weaving.{part_of}
use Rattle.sc_repair.specs.Locality.{placed_of, TellsRegion}
use Rattle.sc_repair.specs.Rewinding.{rewind_point}

-- the papers as they stand, who has which school, the rejections that led there in segments, one for
-- each student in order of entry, and how many proposals the last settling made
pub record Standing : Type 0 where
  pub papers : Market
  pub places : List (ℕ × ℕ)
  pub segments : List (List Rejection)
  pub proposals : ℕ

-- the rejections that led to the standing assignment, in the order in which they happened
abbrev pub log_of : Standing → List Rejection
log_of standing = joined standing.segments

-- the standing assignment as a matching
abbrev pub matching_of : Standing → Matching
matching_of standing = assigned standing.places

-- the standing assignment is the student-optimal stable matching of the papers as they stand
abbrev pub IsOptimal : Standing → Type 0
IsOptimal standing = IsStudentOptimal standing.papers (matching_of standing)

-- what is kept of settled papers: the papers are well-formed, the segments are a segmented log for them, so
-- that the log is settled, and certifies its matching, which is the standing assignment
pub record IsCertified (standing : Standing) : Type 0 where
  pub well_formed : WellFormed standing.papers
  pub segmented : IsSegmented standing.papers standing.segments
  pub settled : IsSettled standing.papers (log_of standing)
  pub matching : (i : ℕ) → matching_of standing i ≡ next_choice standing.papers (log_of standing) i
  pub optimal : IsOptimal standing

-- the proposals of a settling from scratch: each came to a rejection or to a place that is held
abbrev pub proposals_from_scratch : Standing → ℕ
proposals_from_scratch standing = length (log_of standing) + placed standing.papers (matching_of standing)

-- the log of the first k students
abbrev pub log_of_first : Standing → ℕ → List Rejection
log_of_first standing k = joined (take k standing.segments)

-- the papers as they stand after an amendment was answered: a refused one changes nothing
abbrev pub papers_after : Market → Amendment → Result (Unit {0}) Refusal → Market
papers_after m a (Ok done) = after m a
papers_after m a (Err refusal) = m

-- what a student has: nothing is said of a student who is not in the papers
abbrev pub place_of : Standing → ℕ → Option (Option ℕ)
place_of standing i = if is_student standing.papers i then Some (matching_of standing i) else None

-- how many students have a school: nothing is said of a school that is not in the papers
abbrev pub held_at : Standing → ℕ → Option ℕ
held_at standing s = if is_school standing.papers s then Some (held standing.papers (matching_of standing) s) else None

-- the last settling made the proposals of the students who pass, from position k on: each came to a
-- rejection in one of their segments or to a place, beside the places that those before k had
abbrev pub CountsInside : (ℕ → Bool) → ℕ → Standing → Type 0
CountsInside test k standing =
    standing.proposals + placed_of standing.papers test (gives (cut standing.papers k) (log_of_first standing k))
    ≡ length (joined (part_of (drop k (students_of standing.papers)) test (drop k standing.segments))) + placed_of standing.papers test (matching_of standing)

-- the last settling was that of an amendment: it made the proposals of the students of its region alone,
-- from its rewind point on
abbrev pub CountsRegion : Market → Amendment → Standing → Type 0
CountsRegion m a standing = (test : ℕ → Bool) → TellsRegion m a test → CountsInside test (rewind_point m a) standing

-- every student outside the region of an amendment is still there, and has the same
abbrev pub KeepsOthers : Standing → Amendment → Standing → Type 0
KeepsOthers old a new =
    (i : ℕ) → is_student old.papers i ≡ true → (InRegion old.papers a i → ⊥) → (is_student new.papers i ≡ true) × (matching_of new i ≡ matching_of old i)

-- what answering an amendment that is not refused comes to: the standing is certified, and where no growth was refused, it is
-- that of the amended papers, settled anew in the region from the rewind point on; else nothing changed
pub record IsAmended {E : Type 0} (result : Result (Unit {0}) E) (old : Standing) (a : Amendment) (new : Standing) : Type 0 where
  pub certified : IsCertified new
  pub accepted : OnOk result (new.papers ≡ after old.papers a)
  pub stays : OnOk result (take (rewind_point old.papers a) new.segments ≡ take (rewind_point old.papers a) old.segments)
  pub others : OnOk result (KeepsOthers old a new)
  pub proposals : OnOk result (CountsRegion old.papers a new)
  pub unchanged : OnErr result (new ≡ old)
