-- Faults as text, so that one can mend by it.
use Rattle.std.specs.Prelude.{ℕ, nat_eq, Bool, false, List, [], ◌++◌, codes, flat_map, length, if◌then◌else◌, Option, None, Some, Result, Ok, Err}
use Rattle.std.specs.Fmt.{decimal}
use Rattle.sc_decimal.specs.Number.{read_number}
use Rattle.sc_papers.specs.declared.amendment.Refusal.{Refusal}
use Rattle.sc_papers.specs.declared.amendment.Refusal.TheVariants.{ListTooLong, UnknownSchool, SchoolTwice}
use Rattle.sc_intake.specs.Blanks.{trimmed}
use Rattle.sc_intake.specs.Fault.{◌>>=◌}
use Rattle.sc_intake.specs.FaultText.{cause_text, fault_text}
use Rattle.sc_intake.specs.Field.{as_school, as_student, number_of}
use Rattle.sc_intake.specs.File.{text_at}
use Rattle.sc_intake.specs.Plain.{fields_from}
use Rattle.sc_intake.specs.declared.blanks.Blanks.TheVariants.{InLine}
use Rattle.sc_intake.specs.declared.fault.Cause.{Cause}
use Rattle.sc_intake.specs.declared.fault.Cause.TheVariants.{TooLong, Header, Fields, Number, Range, Twice, NoList, NotInRoster, Refused, OutOfMemory}
use Rattle.sc_intake.specs.declared.fault.IntakeFault.{IntakeFault}
use Rattle.sc_intake.specs.declared.fault.Source.{Source}
use Rattle.sc_intake.specs.declared.fault.Source.TheVariants.{Schools, Roster, Lists, Script}
use Rattle.sc_checks.specs.Choices.{refusal_of, refused_told, ToldList}
use Rattle.sc_checks.specs.Columns.{column_name, first_with, Field}
use Rattle.sc_checks.specs.Forms.{columns_of, form_of}
use Rattle.sc_checks.specs.Lines.{row_at, Row}
use Rattle.sc_checks.specs.Quoting.{quoted}
use Rattle.sc_checks.specs.Words.{count_words, general_words, header_words, hint_words, number_words, range_words, refusal_words}
use Rattle.sc_checks.specs.declared.columns.Column.{Column}
use Rattle.sc_checks.specs.declared.columns.Column.TheVariants.{Siblings, Continuing, Choices}
use Rattle.sc_checks.specs.declared.forms.Form.{Form}
use Rattle.sc_checks.specs.declared.forms.Form.TheVariants.{SchoolRow, RosterRow, ListRow, Enter, Withdraw, Rerank, AddOrClose, Correct, Unknown}

-- an input: its name as it was given, and its text
pub record File : Type 0 where
  pub name : List ℕ
  pub text : List ℕ

-- the inputs that are checked
pub record Files : Type 0 where
  pub schools : File
  pub roster : File
  pub lists : File
  pub script : File

-- the names of the inputs, as they were given
pub record Names : Type 0 where
  pub schools : List ℕ
  pub roster : List ℕ
  pub lists : List ℕ
  pub script : List ℕ

-- the inputs of these names and texts
abbrev pub files_of : Names → List ℕ → List ℕ → List ℕ → List ℕ → Files
files_of names schools roster lists script = record {
  schools = record { name = names.schools; text = schools };
  roster = record { name = names.roster; text = roster };
  lists = record { name = names.lists; text = lists };
  script = record { name = names.script; text = script };
}

-- the input that a fault is of, where it is one of them
abbrev pub file_of : Files → Source → Option File
file_of files Schools = Some files.schools
file_of files Roster = Some files.roster
file_of files Lists = Some files.lists
file_of files Script = Some files.script
file_of files _ = None

-- where a row stands: the line of the file, or else its number among the rows
abbrev pub place_text : List ℕ → ℕ → Option Row → List ℕ
place_text name number (Some row) = name ++ codes " line " ++ decimal row.line
place_text name number None = name ++ codes " row " ++ decimal number

-- a number behind a word, where it is read
abbrev pub named : List ℕ → Result ℕ Cause → List ℕ
named word (Ok n) = word ++ decimal n
named word (Err cause) = []

-- the school or the student that a field names
abbrev pub school_text : List ℕ → List ℕ
school_text text = named (codes ", school ") (number_of text >>= as_school)

abbrev pub student_text : List ℕ → List ℕ
student_text text = named (codes ", student ") (number_of text >>= as_student)

-- whom a row is of
abbrev pub subject_text : Form → List (List ℕ) → List ℕ
subject_text SchoolRow fields = school_text (text_at fields 0)
subject_text RosterRow fields = student_text (text_at fields 0)
subject_text ListRow fields = student_text (text_at fields 0)
subject_text Enter fields = student_text (text_at fields 2)
subject_text Withdraw fields = student_text (text_at fields 2)
subject_text Rerank fields = student_text (text_at fields 2)
subject_text AddOrClose fields = school_text (text_at fields 2)
subject_text Correct fields = student_text (text_at fields 2)
subject_text Unknown fields = []

-- a row that is no header, without the blanks around it
abbrev pub about_header : Source → List ℕ → List ℕ
about_header source line = codes " " ++ quoted line ++ codes ": " ++ header_words source ++ hint_words line

-- a row that has not as many fields as it is to have, or a record of a script whose word is none
abbrev pub about_count : Form → List (List ℕ) → List ℕ
about_count Unknown fields = codes ", word " ++ quoted (text_at fields 1) ++ codes ": " ++ count_words Unknown
about_count form fields = subject_text form fields ++ codes ": " ++ count_words form ++ codes ", not " ++ decimal (length fields)

-- what is expected of a column
abbrev pub column_words : Cause → Column → List ℕ
column_words Range column = range_words column
column_words cause column = number_words column

-- a field in print, with its column
abbrev pub shown_text : Field → List ℕ
shown_text field = codes ", " ++ column_name field.column ++ codes " " ++ quoted field.value

-- a field with its column, and what is expected there
abbrev pub field_text : Cause → Field → List ℕ
field_text cause field = shown_text field ++ codes ": " ++ column_words cause field.column

-- a field that is told, and what is expected there
abbrev pub about_field : Source → Cause → Option Field → List ℕ
about_field source cause (Some field) = field_text cause field
about_field source cause None = codes ": " ++ general_words source cause

-- a row of which a field is faulty: the first whose own reading has the row's cause
abbrev pub about_fields : Source → Cause → Form → List (List ℕ) → List ℕ
about_fields source cause form fields =
    subject_text form fields ++ about_field source cause (first_with cause fields 0 (columns_of form))

-- a row, where what stands in it is no matter
abbrev pub about_subject : Source → Cause → Form → List (List ℕ) → List ℕ
about_subject source cause form fields = subject_text form fields ++ codes ": " ++ general_words source cause

-- a number that is read is this one
abbrev pub is_read : ℕ → Option ℕ → Bool
is_read n None = false
is_read n (Some m) = nat_eq n m

-- the field of a row of the roster for which the papers refuse the student, where it is not their choices
abbrev pub refused_text : Refusal → List (List ℕ) → List ℕ
refused_text ListTooLong fields = shown_text (record { column = Siblings; value = text_at fields 2 })
refused_text (SchoolTwice s) fields = shown_text (record { column = Siblings; value = text_at fields 2 })
refused_text (UnknownSchool s) fields =
    if is_read s (read_number (text_at fields 3)) then shown_text (record { column = Continuing; value = text_at fields 3 })
    else shown_text (record { column = Siblings; value = text_at fields 2 })
refused_text _ fields = []

-- a row of the roster whose student the papers refuse
abbrev pub about_refused : Refusal → Form → List (List ℕ) → List ℕ
about_refused r form fields = subject_text form fields ++ refused_text r fields ++ codes ": " ++ refusal_words r

-- what is wrong with a line
abbrev pub about_line : Source → Cause → List ℕ → List ℕ
about_line source Header line = about_header source (trimmed InLine line)
about_line source Fields line = about_count (form_of source (fields_from [] line)) (fields_from [] line)
about_line source Number line = about_fields source Number (form_of source (fields_from [] line)) (fields_from [] line)
about_line source Range line = about_fields source Range (form_of source (fields_from [] line)) (fields_from [] line)
about_line source TooLong line = about_subject source TooLong (form_of source (fields_from [] line)) (fields_from [] line)
about_line source Twice line = about_subject source Twice (form_of source (fields_from [] line)) (fields_from [] line)
about_line source NoList line = about_subject source NoList (form_of source (fields_from [] line)) (fields_from [] line)
about_line source NotInRoster line = about_subject source NotInRoster (form_of source (fields_from [] line)) (fields_from [] line)
about_line source (Refused r) line = about_refused r (form_of source (fields_from [] line)) (fields_from [] line)
about_line source OutOfMemory line = about_subject source OutOfMemory (form_of source (fields_from [] line)) (fields_from [] line)

-- what is wrong with a row, where it is told by its line or not
abbrev pub about_row : Source → Cause → Option Row → List ℕ
about_row source cause (Some row) = about_line source cause row.bytes
about_row source cause None = codes ": " ++ general_words source cause

-- the end of a line: the cause by its name
abbrev pub end_text : Cause → List ℕ
end_text cause = codes ". " ++ cause_text cause ++ codes "\n"

-- the row of an input that a fault is of, where it is told by its line
abbrev pub row_of : Files → Source → ℕ → Option Row
row_of files Schools number = row_at files.schools.text number
row_of files Roster number = row_at files.roster.text number
row_of files Lists number = row_at files.lists.text number
row_of files Script number = row_at files.script.text number
row_of files _ number = None

-- the line of a fault of this input and this row
abbrev pub line_by : Option File → Option Row → IntakeFault → List ℕ
line_by (Some file) row fault = place_text file.name fault.row row ++ about_row fault.source fault.cause row ++ end_text fault.cause
line_by None row fault = fault_text fault ++ codes "\n"

-- the choices in a line of the lists
abbrev pub choices_text : Option Row → List ℕ
choices_text None = []
choices_text (Some row) = shown_text (record { column = Choices; value = text_at (fields_from [] row.bytes) 1 })

-- where a list stands, whose it is, and what stands there
abbrev pub list_text : List ℕ → ToldList → List ℕ
list_text name list = place_text name list.row list.line ++ codes ", student " ++ decimal list.student ++ choices_text list.line

-- the line of a student's choices that the papers refuse: it tells them where they stand in the lists, and beside that
-- the row of the roster
abbrev pub choices_line : Files → Refusal → Option Row → ToldList → IntakeFault → List ℕ
choices_line files r row list fault =
    list_text files.lists.name list ++ codes " (" ++ place_text files.roster.name fault.row row ++ codes "): " ++ refusal_words r ++ end_text fault.cause

-- the line of a student whom the papers refuse: for the choices where these are told, and else for the row of the roster
abbrev pub line_unless : Option ToldList → Files → Refusal → Option Row → IntakeFault → List ℕ
line_unless (Some list) files r row fault = choices_line files r row list fault
line_unless None files r row fault = line_by (Some files.roster) row fault

-- the line of a fault, which is the refusal of a student of the roster or not
abbrev pub line_if : Option Refusal → Files → Option Row → IntakeFault → List ℕ
line_if (Some r) files row fault = line_unless (refused_told files.lists.text r row) files r row fault
line_if None files row fault = line_by (file_of files fault.source) row fault

-- the line of a fault of these inputs, with its line end
unfoldable pub line_of : Files → IntakeFault → List ℕ
line_of files fault = line_if (refusal_of fault.source fault.cause) files (row_of files fault.source fault.row) fault

-- a line for each fault, in their order
abbrev pub faults_text : Files → List IntakeFault → List ℕ
faults_text files faults = flat_map (line_of files) faults

-- the faults of these inputs that are left to be told
pub record ToTell : Type 0 where
  pub files : Files
  pub left : List IntakeFault
