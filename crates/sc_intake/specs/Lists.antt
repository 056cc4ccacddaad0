-- What the rank-order lists read as.
use Rattle.std.specs.Prelude.{ℕ, ◌==◌, Bool, ◌&&◌, List, length, codes, Result, Ok}
use Rattle.std.specs.Str.{bytes_eq}
use Rattle.sc_papers.specs.declared.limits.TheConstants.{MOST_STUDENTS}
use Rattle.sc_intake.specs.Fault.{◌>>=◌}
use Rattle.sc_intake.specs.Field.{all_schools, as_student, numbers_in, number_of}
use Rattle.sc_intake.specs.File.{rows_in, text_at}
use Rattle.sc_intake.specs.Rows.{next_row}
use Rattle.sc_intake.specs.declared.fault.Cause.{Cause}
use Rattle.sc_intake.specs.declared.fault.IntakeFault.{IntakeFault}
use Rattle.sc_intake.specs.declared.fault.Source.TheVariants.{Lists}
use Rattle.sc_intake.specs.declared.lists.ListRow.{ListRow}

-- the header `student,choices`
abbrev pub is_list_header : List (List ℕ) → Bool
is_list_header fields =
    length fields == 2 && bytes_eq (text_at fields 0) (codes "student") && bytes_eq (text_at fields 1) (codes "choices")

-- the row that these two fields read as
abbrev pub choices_of : ℕ → List (List ℕ) → Result ListRow Cause
choices_of row fields = do
  a ← number_of (text_at fields 0)
  b ← numbers_in (text_at fields 1)
  student ← as_student a
  choices ← all_schools b
  Ok (record { row = row; student = student; choices = choices })

-- a row's student
abbrev pub list_number : ListRow → ℕ
list_number row = row.student

-- the row after earlier ones, under a header of so many fields
abbrev pub next_list : ℕ → List ListRow → List (List ℕ) → Result ListRow Cause
next_list = next_row MOST_STUDENTS list_number choices_of

-- the rows of the lists
abbrev pub lists_in : List ℕ → Result (List ListRow) IntakeFault
lists_in text = rows_in Lists is_list_header next_list text
