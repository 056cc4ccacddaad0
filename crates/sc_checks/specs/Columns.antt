-- The columns of the files and of a script's records, and what a field of each reads as by itself.
use Rattle.std.specs.Prelude.{ℕ, ◌+◌, Bool, true, false, List, [], ◌∷◌, codes, if◌then◌else◌, Option, None, Some, Result, Ok, Err}
use Rattle.sc_intake.specs.Fault.{◌>>=◌}
use Rattle.sc_intake.specs.Field.{as_count, as_school, as_school_or_none, as_seats, as_stamp, as_student, as_zone, listed, number_of, number_or_none, within}
use Rattle.sc_intake.specs.File.{text_at}
use Rattle.sc_intake.specs.declared.fault.Cause.{Cause}
use Rattle.sc_intake.specs.declared.fault.Cause.TheVariants.{Number, Range}
use Rattle.sc_checks.specs.declared.columns.Column.{Column}
use Rattle.sc_checks.specs.declared.columns.Column.TheVariants.{School, Zone, Seats, Student, Siblings, Continuing, Choices, Stamp, Word, Count}

-- a column's name
abbrev pub column_name : Column → List ℕ
column_name School = codes "school"
column_name Zone = codes "zone"
column_name Seats = codes "seats"
column_name Student = codes "student"
column_name Siblings = codes "siblings"
column_name Continuing = codes "continuing"
column_name Choices = codes "choices"
column_name Stamp = codes "stamp"
column_name Word = codes "word"
column_name Count = codes "count"

-- the cause of a reading, if it has one
abbrev pub cause_of : {A : Type 0} → Result A Cause → Option Cause
cause_of (Ok x) = None
cause_of (Err cause) = Some cause

-- the cause of a list, if it has one
abbrev pub cause_of_list : Result (Result (List ℕ) Cause) Cause → Option Cause
cause_of_list (Ok schools) = cause_of schools
cause_of_list (Err cause) = Some cause

-- the cause of numbers, each of which is within its range or not
abbrev pub cause_of_range : Bool → Option Cause
cause_of_range true = None
cause_of_range false = Some Range

-- the cause of a number of a range, and of a school's number or nothing, if it has one
abbrev pub number_cause : ℕ → ℕ → List ℕ → Option Cause
number_cause least greatest text = cause_of (number_of text >>= within least greatest)

abbrev pub optional_cause : List ℕ → Option Cause
optional_cause text = cause_of (number_or_none text >>= as_school_or_none)

-- the cause that a field of this column has by itself, if it has one
abbrev pub cause_in : Column → List ℕ → Option Cause
cause_in School text = cause_of (number_of text >>= as_school)
cause_in Zone text = cause_of (number_of text >>= as_zone)
cause_in Seats text = cause_of (number_of text >>= as_seats)
cause_in Student text = cause_of (number_of text >>= as_student)
cause_in Siblings text = cause_of_list (listed text)
cause_in Continuing text = cause_of (number_or_none text >>= as_school_or_none)
cause_in Choices text = cause_of_list (listed text)
cause_in Stamp text = cause_of (number_of text >>= as_stamp)
cause_in Word text = None
cause_in Count text = cause_of (number_of text >>= as_count)

-- a cause is that a number is none
abbrev pub is_number : Option Cause → Bool
is_number (Some Number) = true
is_number _ = false

-- a cause is that a number is out of its range
abbrev pub is_range : Option Cause → Bool
is_range (Some Range) = true
is_range _ = false

-- a field by itself has the cause of its row
abbrev pub is_cause : Cause → Option Cause → Bool
is_cause Number found = is_number found
is_cause Range found = is_range found
is_cause _ found = false

-- a field that is told: its column, and what stands in it
pub record Field : Type 0 where
  pub column : Column
  pub value : List ℕ

-- the first of these columns, the first of which has this index, whose field by itself has the cause of its row
unfoldable pub first_with : Cause → List (List ℕ) → ℕ → List Column → Option Field
first_with cause fields index [] = None
first_with cause fields index (column ∷ rest) =
    if is_cause cause (cause_in column (text_at fields index)) then Some (record { column = column; value = text_at fields index })
    else first_with cause fields (index + 1) rest
