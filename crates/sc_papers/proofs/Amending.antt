-- An accepted amendment leaves the papers well-formed.
use Rattle.std.proofs.Common.{◌≡◌, ℕ, Option, Some, None, refl, sym}
use Rattle.sc_papers.specs.Market.{Market, school_of, student_of}
use Rattle.sc_papers.specs.Verdict.{after, changed_school, changed_student, verdict}
use Rattle.sc_papers.specs.WellFormed.{WellFormed, IsProper}
use Rattle.sc_papers.specs.declared.amendment.Amendment.{Amendment}
use Rattle.sc_papers.specs.declared.amendment.Amendment.TheVariants.{Enter, Withdraw, Rerank, Add, Close, Correct}
use Rattle.sc_papers.specs.declared.records.School.{School}
use Rattle.sc_papers.specs.declared.records.Student.{Student}
use Rattle.sc_papers.proofs.Changing.{All-found, IsProper-corrected, IsProper-reranked, WellFormed-put_school, WellFormed-put_student, WellFormed-without_student}
use Rattle.sc_papers.proofs.Entering.{MayEnter-allowed, WellFormed-with_student}

-- what the papers hold of a student changes, if they hold the student
well-changed_student : (m : Market) (i : ℕ) (change : Student → Student) → WellFormed m → ((student : Student) → IsProper m student → IsProper m (change student)) → WellFormed (changed_student m i change)
well-changed_student m i change well proper = by_case (student_of m i) refl
  where
    by_case : (found : Option Student) → student_of m i ≡ found → WellFormed (changed_student m i change)
    by_case None e = rw e well
    by_case (Some student) e =
        rw e (WellFormed-put_student m i (change student) well (proper student (All-found (IsProper m) i m.students student (sym e) well.students_proper)))

-- what the papers hold of a school changes, if they hold the school
well-changed_school : (m : Market) (s : ℕ) (change : School → School) → WellFormed m → WellFormed (changed_school m s change)
well-changed_school m s change well = by_case (school_of m s) refl
  where
    by_case : (found : Option School) → school_of m s ≡ found → WellFormed (changed_school m s change)
    by_case None e = rw e well
    by_case (Some school) e = rw e (WellFormed-put_school m s (change school) well)

pub WellFormed-after : (m : Market) (a : Amendment) → WellFormed m → verdict m a ≡ None → WellFormed (after m a)
WellFormed-after m (Enter i zone siblings choices continuing) well allowed =
    let student : Student = record { zone = zone; siblings = siblings; choices = choices; continuing = continuing } in
    WellFormed-with_student m i student well (MayEnter-allowed m i student allowed)
WellFormed-after m (Withdraw i) well allowed = WellFormed-without_student m i well
WellFormed-after m (Rerank i choices) well allowed =
    well-changed_student m i (λ student. record student { choices = choices }) well (λ student proper. IsProper-reranked m i student choices allowed proper)
WellFormed-after m (Add s count) well allowed = well-changed_school m s _ well
WellFormed-after m (Close s count) well allowed = well-changed_school m s _ well
WellFormed-after m (Correct i zone siblings continuing) well allowed =
    well-changed_student m i (λ student. record student { zone = zone; siblings = siblings; continuing = continuing }) well (λ student proper. IsProper-corrected m i student zone siblings continuing allowed proper)
