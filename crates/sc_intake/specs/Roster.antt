-- What the roster reads as.
use Rattle.std.specs.Prelude.{ℕ, ◌==◌, Bool, ◌&&◌, ◌||◌, List, length, codes, Result, Ok}
use Rattle.std.specs.Str.{bytes_eq}
use Rattle.sc_papers.specs.declared.limits.TheConstants.{MOST_STUDENTS}
use Rattle.sc_intake.specs.Fault.{◌>>=◌}
use Rattle.sc_intake.specs.Field.{all_schools, as_school_or_none, as_student, as_zone, numbers_in, number_of, number_or_none}
use Rattle.sc_intake.specs.File.{rows_in, text_at}
use Rattle.sc_intake.specs.Rows.{next_row}
use Rattle.sc_intake.specs.declared.fault.Cause.{Cause}
use Rattle.sc_intake.specs.declared.fault.IntakeFault.{IntakeFault}
use Rattle.sc_intake.specs.declared.fault.Source.TheVariants.{Roster}
use Rattle.sc_intake.specs.declared.roster.RosterRow.{RosterRow}

-- the header `student,zone,siblings`, or `student,zone,siblings,continuing`
abbrev pub is_roster_header : List (List ℕ) → Bool
is_roster_header fields =
    (length fields == 3 || length fields == 4 && bytes_eq (text_at fields 3) (codes "continuing"))
    && bytes_eq (text_at fields 0) (codes "student") && bytes_eq (text_at fields 1) (codes "zone")
    && bytes_eq (text_at fields 2) (codes "siblings")

-- the row that these fields read as, three or four: a fourth that is not there is empty
abbrev pub student_of : ℕ → List (List ℕ) → Result RosterRow Cause
student_of row fields = do
  a ← number_of (text_at fields 0)
  b ← number_of (text_at fields 1)
  c ← numbers_in (text_at fields 2)
  d ← number_or_none (text_at fields 3)
  student ← as_student a
  zone ← as_zone b
  siblings ← all_schools c
  continuing ← as_school_or_none d
  Ok (record { row = row; student = student; zone = zone; siblings = siblings; continuing = continuing })

-- a row's student
abbrev pub roster_number : RosterRow → ℕ
roster_number row = row.student

-- the row after earlier ones, under a header of so many fields
abbrev pub next_student : ℕ → List RosterRow → List (List ℕ) → Result RosterRow Cause
next_student = next_row MOST_STUDENTS roster_number student_of

-- the rows of the roster
abbrev pub roster_in : List ℕ → Result (List RosterRow) IntakeFault
roster_in text = rows_in Roster is_roster_header next_student text
