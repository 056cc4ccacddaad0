-- Papers that are well-formed, and the limits of their size.
use Rattle.std.specs.Prelude.{◌≡◌, ◌≤◌, ◌<◌, nat_eq, true, length, All, IfSome}
use Rattle.std.specs.List.{IsDistinct, AllPass}
use Rattle.sc_papers.specs.Market.{Market, schools_of, students_of, is_school}
use Rattle.sc_papers.specs.declared.limits.TheConstants.{LONGEST_LIST, MOST_SCHOOLS, MOST_STUDENTS}
use Rattle.sc_papers.specs.declared.records.Student.{Student}
use Rattle.sc_papers.specs.declared.seats.TheConstants.Seats.{GREATEST}

-- a student's lists name schools of the papers, each once, and the choices are some; the school at which
-- the student continues, if there is one, is in the papers
pub record IsProper (m : Market) (student : Student) : Type 0 where
  pub choices_some : 0 < length student.choices
  pub choices_known : AllPass (is_school m) student.choices
  pub choices_differ : IsDistinct nat_eq student.choices
  pub siblings_known : AllPass (is_school m) student.siblings
  pub siblings_differ : IsDistinct nat_eq student.siblings
  pub continuing_known : IfSome student.continuing (λ s. is_school m s ≡ true)

-- no two schools and no two students have one number, and every student's lists are proper
pub record WellFormed (m : Market) : Type 0 where
  pub schools_differ : IsDistinct nat_eq (schools_of m)
  pub students_differ : IsDistinct nat_eq (students_of m)
  pub students_proper : All (λ entry. IsProper m entry.1) m.students

-- a student lists no more choices and no more siblings than a list may name
pub record IsShort (student : Student) : Type 0 where
  pub choices : length student.choices ≤ LONGEST_LIST
  pub siblings : length student.siblings ≤ LONGEST_LIST

-- no more schools, seats of a school and students than there may be, and short lists
pub record WithinLimits (m : Market) : Type 0 where
  pub schools : length m.schools ≤ MOST_SCHOOLS
  pub seats : All (λ entry. entry.1.seats ≤ GREATEST) m.schools
  pub students : length m.students ≤ MOST_STUDENTS
  pub lists : All (λ entry. IsShort entry.1) m.students
