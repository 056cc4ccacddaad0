-- Refusals of a student's choices: these stand in the lists, and are told there.
use Rattle.std.specs.Prelude.{ℕ, ◌==◌, Bool, false, nat_eq, nat_lt, List, [], length, option_and_then, option_map, unwrap_or, if◌then◌else◌, Option, None, Some, Result, Ok, Err}
use Rattle.std.specs.List.{count_by}
use Rattle.sc_papers.specs.declared.amendment.Refusal.{Refusal}
use Rattle.sc_papers.specs.declared.amendment.Refusal.TheVariants.{EmptyList, ListTooLong, UnknownSchool, SchoolTwice}
use Rattle.sc_intake.specs.Checking.{good_of, lists_judged}
use Rattle.sc_intake.specs.Fault.{◌>>=◌}
use Rattle.sc_intake.specs.Field.{as_student, number_of}
use Rattle.sc_intake.specs.File.{text_at}
use Rattle.sc_intake.specs.Papers.{list_of}
use Rattle.sc_intake.specs.Plain.{fields_from}
use Rattle.sc_intake.specs.declared.fault.Cause.{Cause}
use Rattle.sc_intake.specs.declared.fault.Cause.TheVariants.{Refused}
use Rattle.sc_intake.specs.declared.fault.Source.{Source}
use Rattle.sc_intake.specs.declared.fault.Source.TheVariants.{Roster}
use Rattle.sc_intake.specs.declared.lists.ListRow.{ListRow}
use Rattle.sc_checks.specs.Lines.{row_at, Row}

-- the rows of the lists that have no fault
abbrev pub good_lists : List ℕ → List ListRow
good_lists text = unwrap_or (good_of (lists_judged text)) []

-- a list has what the papers refuse
abbrev pub is_refused : Refusal → List ℕ → Bool
is_refused EmptyList schools = length schools == 0
is_refused ListTooLong schools = nat_lt 20 (length schools)
is_refused (UnknownSchool s) schools = nat_lt 0 (count_by (nat_eq s) schools)
is_refused (SchoolTwice s) schools = nat_lt 1 (count_by (nat_eq s) schools)
is_refused _ schools = false

-- this list, where it has what the papers refuse
abbrev pub if_refused : Refusal → Option ListRow → Option ListRow
if_refused r None = None
if_refused r (Some list) = if is_refused r list.choices then Some list else None

-- a number, where it is read
abbrev pub number_read : Result ℕ Cause → Option ℕ
number_read (Ok n) = Some n
number_read (Err cause) = None

-- the student whom a row of the roster is of
abbrev pub student_of_row : Option Row → Option ℕ
student_of_row None = None
student_of_row (Some row) = number_read (number_of (text_at (fields_from [] row.bytes) 0) >>= as_student)

-- the list of the student of a row of the roster, where it has what the papers refuse
abbrev pub refused_list : List ListRow → Refusal → Option Row → Option ListRow
refused_list lists r row = if_refused r (option_and_then (list_of lists) (student_of_row row))

-- a list that is told: its row, whose it is, and its line
pub record ToldList : Type 0 where
  pub row : ℕ
  pub student : ℕ
  pub line : Option Row

-- how a list in a text is told
abbrev pub told_list : List ℕ → ListRow → ToldList
told_list text list = record { row = list.row; student = list.student; line = row_at text list.row }

-- the list of the lists' text of which the papers refuse the choices, for a row of the roster
abbrev pub refused_told : List ℕ → Refusal → Option Row → Option ToldList
refused_told text r row = option_map (told_list text) (refused_list (good_lists text) r row)

-- the refusal that a cause is
abbrev pub refusal_in : Cause → Option Refusal
refusal_in (Refused r) = Some r
refusal_in _ = None

-- the refusal of a student of the roster
abbrev pub refusal_of : Source → Cause → Option Refusal
refusal_of Roster cause = refusal_in cause
refusal_of _ cause = None
