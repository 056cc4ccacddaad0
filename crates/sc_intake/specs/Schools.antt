-- What the file of the schools reads as.
use Rattle.std.specs.Prelude.{ℕ, ◌==◌, Bool, ◌&&◌, List, length, codes, Result, Ok}
use Rattle.std.specs.Str.{bytes_eq}
use Rattle.sc_papers.specs.declared.limits.TheConstants.{MOST_SCHOOLS}
use Rattle.sc_intake.specs.Fault.{◌>>=◌}
use Rattle.sc_intake.specs.Field.{as_school, as_seats, as_zone, number_of}
use Rattle.sc_intake.specs.File.{rows_in, text_at}
use Rattle.sc_intake.specs.Rows.{next_row}
use Rattle.sc_intake.specs.declared.fault.Cause.{Cause}
use Rattle.sc_intake.specs.declared.fault.IntakeFault.{IntakeFault}
use Rattle.sc_intake.specs.declared.fault.Source.TheVariants.{Schools}
use Rattle.sc_intake.specs.declared.schools.SchoolRow.{SchoolRow}

-- the header `school,zone,seats`
abbrev pub is_school_header : List (List ℕ) → Bool
is_school_header fields =
    length fields == 3 && bytes_eq (text_at fields 0) (codes "school") && bytes_eq (text_at fields 1) (codes "zone")
    && bytes_eq (text_at fields 2) (codes "seats")

-- the row that these three fields read as
abbrev pub school_of : ℕ → List (List ℕ) → Result SchoolRow Cause
school_of row fields = do
  a ← number_of (text_at fields 0)
  b ← number_of (text_at fields 1)
  c ← number_of (text_at fields 2)
  number ← as_school a
  zone ← as_zone b
  seats ← as_seats c
  Ok (record { row = row; number = number; zone = zone; seats = seats })

-- a school's number
abbrev pub school_number : SchoolRow → ℕ
school_number row = row.number

-- the row after earlier ones, under a header of so many fields
abbrev pub next_school : ℕ → List SchoolRow → List (List ℕ) → Result SchoolRow Cause
next_school = next_row MOST_SCHOOLS school_number school_of

-- the rows of the file of the schools
abbrev pub schools_in : List ℕ → Result (List SchoolRow) IntakeFault
schools_in text = rows_in Schools is_school_header next_school text
