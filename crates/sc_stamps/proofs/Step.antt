-- The stamps are in step after each amendment.
use Rattle.std.proofs.Common.{◌≡◌, refl, sym, ap, ◌∙◌, ℕ, ◌+◌, nat_eq, [], ◌∷◌, length, Option, Some, None, position, length-append, arith}
use Rattle.std.proofs.lemmas.Map.{length-set_value}
use Rattle.sc_papers.specs.Market.{Market, school_of, schools_of, student_of, students_of}
use Rattle.sc_papers.specs.Verdict.{after, changed_school, changed_student}
use Rattle.sc_papers.specs.declared.amendment.Amendment.{Amendment}
use Rattle.sc_papers.specs.declared.amendment.Amendment.TheVariants.{Enter, Withdraw, Rerank, Add, Close, Correct}
use Rattle.sc_papers.specs.declared.records.School.{School}
use Rattle.sc_papers.specs.declared.records.Student.{Student}
use Rattle.sc_stamps.specs.Stamps.{IsInStep, Stamps, stamps_after, with_stamp}
use Rattle.sc_stamps.proofs.Given.{given-more, given-out, given-pushed, given-put}
use Rattle.sc_stamps.proofs.Places.{length-out, length-put}

-- to change a student or a school adds and removes none
length-changed_student : (m : Market) (i : ℕ) (change : Student → Student) → length (changed_student m i change).students ≡ length m.students
length-changed_student m i change = by_case (student_of m i) refl
  where
    by_case : (found : Option Student) → student_of m i ≡ found → length (changed_student m i change).students ≡ length m.students
    by_case None e = rw e refl
    by_case (Some student) e = rw e (length-set_value (nat_eq i) m.students (change student))

pub schools-changed_student : (m : Market) (i : ℕ) (change : Student → Student) → (changed_student m i change).schools ≡ m.schools
schools-changed_student m i change = by_case (student_of m i) refl
  where
    by_case : (found : Option Student) → student_of m i ≡ found → (changed_student m i change).schools ≡ m.schools
    by_case None e = rw e refl
    by_case (Some student) e = rw e refl

length-changed_school : (m : Market) (s : ℕ) (change : School → School) → length (changed_school m s change).schools ≡ length m.schools
length-changed_school m s change = by_case (school_of m s) refl
  where
    by_case : (found : Option School) → school_of m s ≡ found → length (changed_school m s change).schools ≡ length m.schools
    by_case None e = rw e refl
    by_case (Some school) e = rw e (length-set_value (nat_eq s) m.schools (change school))

pub students-changed_school : (m : Market) (s : ℕ) (change : School → School) → (changed_school m s change).students ≡ m.students
students-changed_school m s change = by_case (school_of m s) refl
  where
    by_case : (found : Option School) → school_of m s ≡ found → (changed_school m s change).students ≡ m.students
    by_case None e = rw e refl
    by_case (Some school) e = rw e refl

-- the stamps stay in step where a student or a school gets a new stamp
in-step-student : (m : Market) (stamps : Stamps) (i : ℕ) (place : Option ℕ) (change : Student → Student) → IsInStep m stamps
    → IsInStep (changed_student m i change) (record stamps { accepted = stamps.accepted + 1; students = with_stamp stamps.students place (stamps.accepted + 1) })
in-step-student m stamps i place change step = record {
  students = length-put stamps.students place (stamps.accepted + 1) ∙ step.students ∙ sym (length-changed_student m i change);
  schools = step.schools ∙ sym (ap length (schools-changed_student m i change));
  students_given = given-put stamps.accepted stamps.students place step.students_given;
  schools_given = given-more stamps.accepted stamps.schools step.schools_given;
}

in-step-school : (m : Market) (stamps : Stamps) (s : ℕ) (place : Option ℕ) (change : School → School) → IsInStep m stamps
    → IsInStep (changed_school m s change) (record stamps { accepted = stamps.accepted + 1; schools = with_stamp stamps.schools place (stamps.accepted + 1) })
in-step-school m stamps s place change step = record {
  students = step.students ∙ sym (ap length (students-changed_school m s change));
  schools = length-put stamps.schools place (stamps.accepted + 1) ∙ step.schools ∙ sym (length-changed_school m s change);
  students_given = given-more stamps.accepted stamps.students step.students_given;
  schools_given = given-put stamps.accepted stamps.schools place step.schools_given;
}

-- so they are in step with the papers after an amendment
pub in-step-after : (m : Market) (stamps : Stamps) (a : Amendment) → IsInStep m stamps → IsInStep (after m a) (stamps_after m a stamps)
in-step-after m stamps (Enter i zone siblings choices continuing) step =
    let student : Student = record { zone = zone; siblings = siblings; choices = choices; continuing = continuing } in
    record {
      students = omega (arith, step.students, length-append stamps.students ((stamps.accepted + 1) ∷ []), length-append m.students ((i, student) ∷ []));
      schools = step.schools;
      students_given = given-pushed stamps.accepted stamps.students step.students_given;
      schools_given = given-more stamps.accepted stamps.schools step.schools_given;
    }
in-step-after m stamps (Withdraw i) step = record {
  students = length-out (nat_eq i) m.students stamps.students step.students;
  schools = step.schools;
  students_given = given-out stamps.accepted stamps.students (position (nat_eq i) (students_of m)) step.students_given;
  schools_given = given-more stamps.accepted stamps.schools step.schools_given;
}
in-step-after m stamps (Rerank i choices) step = in-step-student m stamps i (position (nat_eq i) (students_of m)) _ step
in-step-after m stamps (Add s count) step = in-step-school m stamps s (position (nat_eq s) (schools_of m)) _ step
in-step-after m stamps (Close s count) step = in-step-school m stamps s (position (nat_eq s) (schools_of m)) _ step
in-step-after m stamps (Correct i zone siblings continuing) step = in-step-student m stamps i (position (nat_eq i) (students_of m)) _ step
