-- What the papers keep of a student in one row, beside the student's record.
use Rattle.std.specs.Prelude.{◌≡◌, ◌<◌, ℕ, ◌==◌, Bool, nat_eq, nat_lt, List, [], Option, None, Some, length, map, position, take, slice_get, slice_index_or, unwrap_or, if◌then◌else◌}
use Rattle.std.specs.List.{list_any}
use Rattle.std.specs.Option.{option_eq}
use Rattle.sc_lottery.specs.Draw.{draw}
use Rattle.sc_papers.specs.Classed.{Classed}
use Rattle.sc_papers.specs.Key.{class_at, class_by, same_zone}
use Rattle.sc_papers.specs.Market.{Market, choices_of, continuing_of, schools_of, siblings_of, student_at, zone_at, zone_of}
use Rattle.sc_papers.specs.declared.records.Student.{Student}
use Rattle.sc_papers.specs.declared.student_row.StudentRow.TheInside.{Inside}

-- the draw, the student's number, the school at which the student continues, the school of the first sibling, whether
-- there are more siblings, the zone, and the choices, best first
pub record Row : Type 0 where
  pub draw : ℕ
  pub number : ℕ
  pub continuing : Option ℕ
  pub sibling : Option ℕ
  pub more_siblings : Bool
  pub zone : ℕ
  pub choices : List Classed

-- the school of a number, where 0 is none
abbrev pub school_in : ℕ → Option ℕ
school_in number = if number == 0 then None else Some number

-- the row that the fields hold
abbrev pub row_in : Inside → Row
row_in r = record {
  draw = r.draw;
  number = r.number;
  continuing = school_in r.continuing;
  sibling = school_in r.sibling;
  more_siblings = r.more_siblings;
  zone = r.zone;
  choices = take r.count r.choices;
}

-- the positions that a table gives schools by their numbers; 0 where it gives none
abbrev pub positions_in : List (Option ℕ) → List ℕ → List ℕ
positions_in table schools = map (λ s. unwrap_or (slice_index_or table s None) 0) schools

-- the priority class of a student at a school in this zone
abbrev pub class_in : Student → ℕ → ℕ → ℕ
class_in student school zone =
    class_by (option_eq nat_eq student.continuing (Some school)) (list_any (λ t. t == school) student.siblings) (same_zone student.zone zone)

-- a student who lives in a zone, continues nowhere and has no siblings: the zone alone tells the class at each school
pub record IsZoned (student : Student) : Type 0 where
  pub zone : 0 < student.zone
  pub continuing : student.continuing ≡ None
  pub siblings : student.siblings ≡ []

-- the choice by a student of the school at a position
abbrev pub classed_at : Market → Student → ℕ → Classed
classed_at m student position = let school = slice_index_or (schools_of m) position 0 in record {
  position = position;
  class = class_in student school (zone_at m school);
}

-- the choices of a student, by the schools' zones and a table of their positions, 0 where it gives none
abbrev pub classed_in : (ℕ → ℕ) → List (Option ℕ) → Student → List Classed
classed_in zones table student = map (λ s. record {
  position = unwrap_or (slice_index_or table s None) 0;
  class = class_in student s (zones s);
}) student.choices

-- the row of a student with this number and this draw, and these choices
abbrev pub row_at : List Classed → ℕ → ℕ → Student → Row
row_at choices number draw student = record {
  draw = draw;
  number = number;
  continuing = student.continuing;
  sibling = slice_get student.siblings 0;
  more_siblings = nat_lt 1 (length student.siblings);
  zone = student.zone;
  choices = choices;
}

-- the row of a student with this number and this draw, by the schools' zones and the table of their positions
abbrev pub row_of : (ℕ → ℕ) → List (Option ℕ) → ℕ → ℕ → Student → Row
row_of zones table number draw student = row_at (classed_in zones table student) number draw student

-- the row tells of the student at a position of the order of entry
pub record IsRowAt (m : Market) (at : ℕ) (row : Row) : Type 0 where
  pub within : at < length m.students
  pub number : row.number ≡ student_at m at
  pub draw : row.draw ≡ draw m.seed (student_at m at)
  pub zone : row.zone ≡ zone_of m (student_at m at)
  pub continuing : row.continuing ≡ continuing_of m (student_at m at)
  pub sibling : row.sibling ≡ slice_get (siblings_of m (student_at m at)) 0
  pub more_siblings : row.more_siblings ≡ nat_lt 1 (length (siblings_of m (student_at m at)))
  pub positions : map Some (map (λ c. c.position) row.choices) ≡ map (λ s. position (nat_eq s) (schools_of m)) (choices_of m (student_at m at))
  pub classes : map (λ c. c.class) row.choices ≡ map (class_at m (student_at m at)) (choices_of m (student_at m at))
