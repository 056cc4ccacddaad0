-- Numbers of papers that are in their ranges, as those of every value of the types are.
use Rattle.std.specs.Prelude.{ℕ, All}
use Rattle.sc_papers.specs.Market.{Market}
use Rattle.sc_papers.specs.declared.records.School.{School}
use Rattle.sc_papers.specs.declared.records.Student.{Student}
use Rattle.sc_lines.specs.Spelling.{IsSchool, IsStudent, IsZone}

-- a school's number and its zone
abbrev pub IsSchoolInRange : ℕ × School → Type 0
IsSchoolInRange entry = IsSchool entry.0 × IsZone entry.1.zone

-- a student's number and zone
abbrev pub IsStudentInRange : ℕ × Student → Type 0
IsStudentInRange entry = IsStudent entry.0 × IsZone entry.1.zone

-- the numbers of papers are in their ranges
pub record AreInRange (m : Market) : Type 0 where
  pub schools : All IsSchoolInRange m.schools
  pub students : All IsStudentInRange m.students
