-- The papers as contracts see them, and the words that look into them.
use Rattle.std.specs.Prelude.{ℕ, nat_eq, Bool, List, [], Option, Some, is_some, slice_index_or}
use Rattle.std.specs.Option.{option_and_then, option_eq, option_map_or}
use Rattle.std.specs.Map.{lookup, keys_of}
use Rattle.sc_papers.specs.declared.records.School.{School}
use Rattle.sc_papers.specs.declared.records.Student.{Student}

-- a school choice problem (Abdulkadiroğlu and Sönmez): the seed of the lottery, the schools, and the
-- students in order of entry, each under its number
pub record Market : Type 0 where
  pub seed : List ℕ
  pub schools : List (ℕ × School)
  pub students : List (ℕ × Student)

-- what the papers hold of a school, if it is in them
abbrev pub school_of : Market → ℕ → Option School
school_of m s = lookup (nat_eq s) m.schools

-- what the papers hold of a student, if the student is in them
abbrev pub student_of : Market → ℕ → Option Student
student_of m i = lookup (nat_eq i) m.students

-- whether the school is in the papers
abbrev pub is_school : Market → ℕ → Bool
is_school m s = is_some (school_of m s)

-- whether the student is in the papers
abbrev pub is_student : Market → ℕ → Bool
is_student m i = is_some (student_of m i)

-- the schools' numbers, in order of entry
abbrev pub schools_of : Market → List ℕ
schools_of m = keys_of m.schools

-- the students' numbers, in order of entry
abbrev pub students_of : Market → List ℕ
students_of m = keys_of m.students

-- the student at a position of the order of entry
abbrev pub student_at : Market → ℕ → ℕ
student_at m position = slice_index_or (students_of m) position 0

-- a student's choices, best first; an unknown student has none
unfoldable pub choices_of : Market → ℕ → List ℕ
choices_of m i = option_map_or (λ student. student.choices) (student_of m i) []

-- the schools of a student's siblings; an unknown student has none
abbrev pub siblings_of : Market → ℕ → List ℕ
siblings_of m i = option_map_or (λ student. student.siblings) (student_of m i) []

-- the school at which a student continues, if there is one; an unknown student continues nowhere
abbrev pub continuing_of : Market → ℕ → Option ℕ
continuing_of m i = option_and_then (λ student. student.continuing) (student_of m i)

-- whether a student continues at this school
abbrev pub continues_at : Market → ℕ → ℕ → Bool
continues_at m i s = option_eq nat_eq (continuing_of m i) (Some s)

-- a student's zone, 0 where there is none; an unknown student has none
abbrev pub zone_of : Market → ℕ → ℕ
zone_of m i = option_map_or (λ student. student.zone) (student_of m i) 0

-- a school's zone, 0 where there is none; an unknown school has none
abbrev pub zone_at : Market → ℕ → ℕ
zone_at m s = option_map_or (λ school. school.zone) (school_of m s) 0

-- a school's seats; an unknown school has none
unfoldable pub seats_of : Market → ℕ → ℕ
seats_of m s = option_map_or (λ school. school.seats) (school_of m s) 0
