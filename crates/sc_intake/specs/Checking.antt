-- Every fault of the files of an opening, and not the first alone.
use Rattle.std.specs.Prelude.{◌≡◌, ℕ, ◌+◌, Bool, ◌||◌, nat_eq, nat_le, List, [], ◌∷◌, ◌++◌, flat_map, length, map, if◌then◌else◌, option_map, Option, None, Some, Result, Ok, Err}
use Rattle.std.specs.List.{list_any}
use Rattle.std.specs.Result.{result_ok}
use Rattle.sc_papers.specs.Market.{Market}
use Rattle.sc_papers.specs.declared.limits.TheConstants.{MOST_SCHOOLS, MOST_STUDENTS}
use Rattle.sc_intake.specs.Fault.{◌>>=◌, fault_at}
use Rattle.sc_intake.specs.Field.{as_school, number_of}
use Rattle.sc_intake.specs.File.{after_header, records_below, records_in, text_at}
use Rattle.sc_intake.specs.Lists.{choices_of, is_list_header, list_number}
use Rattle.sc_intake.specs.Papers.{entered_by, is_in_roster, list_of, opening}
use Rattle.sc_intake.specs.Roster.{is_roster_header, roster_number, student_of}
use Rattle.sc_intake.specs.Rows.{added, next_row_at}
use Rattle.sc_intake.specs.Schools.{is_school_header, school_number, school_of}
use Rattle.sc_intake.specs.Script.{stamped_of}
use Rattle.sc_intake.specs.declared.fault.Cause.{Cause}
use Rattle.sc_intake.specs.declared.fault.Cause.TheVariants.{NotInRoster}
use Rattle.sc_intake.specs.declared.fault.IntakeFault.{IntakeFault}
use Rattle.sc_intake.specs.declared.fault.Source.{Source}
use Rattle.sc_intake.specs.declared.fault.Source.TheVariants.{Schools, Roster, Lists, Script}
use Rattle.sc_intake.specs.declared.lists.ListRow.{ListRow}
use Rattle.sc_intake.specs.declared.roster.RosterRow.{RosterRow}
use Rattle.sc_intake.specs.declared.schools.SchoolRow.{SchoolRow}

-- what was judged so far: what the rows without a fault came to, and the faults of the others
pub record Judged (A : Type 0) : Type 0 where
  pub good : A
  pub faults : List IntakeFault

-- what was judged with a row more: it is good, or it has a fault and changes nothing else
abbrev pub with_row : {A : Type 0} → Source → ℕ → Judged A → Result A Cause → Judged A
with_row source row so_far (Ok better) = record { good = better; faults = so_far.faults }
with_row source row so_far (Err cause) = record { good = so_far.good; faults = so_far.faults ++ fault_at source row cause ∷ [] }

-- nothing was judged yet
abbrev pub unjudged : {A : Type 0} → A → Judged A
unjudged good = record { good = good; faults = [] }

-- the records from this row on, each judged by the rows before it that have no fault
unfoldable pub judged_from : {R : Type 0} → ℕ → Source → (ℕ → List R → List (List ℕ) → Result R Cause) → Judged (List R) → List (List (List ℕ)) → Judged (List R)
judged_from row source read so_far [] = so_far
judged_from row source read so_far (fields ∷ rest) =
    judged_from (row + 1) source read (with_row source row so_far (added so_far.good (read row so_far.good fields))) rest

-- a file judged row by row; the fault is of a file that is too long or lacks its header, so that no row can be judged
abbrev pub judged_in : {R : Type 0} → Source → (List (List ℕ) → Bool) → (ℕ → ℕ → List R → List (List ℕ) → Result R Cause) → List ℕ → Result (Judged (List R)) IntakeFault
judged_in source is_header read text =
    records_in source text >>= after_header source is_header >>= λ below. Ok (judged_from 2 source (read below.0) (unjudged []) below.1)

-- the file of the schools, judged row by row
abbrev pub schools_judged : List ℕ → Result (Judged (List SchoolRow)) IntakeFault
schools_judged = judged_in Schools is_school_header (next_row_at MOST_SCHOOLS school_number school_of)

-- the roster, judged row by row
abbrev pub roster_judged : List ℕ → Result (Judged (List RosterRow)) IntakeFault
roster_judged = judged_in Roster is_roster_header (next_row_at MOST_STUDENTS roster_number student_of)

-- the lists, judged row by row
abbrev pub lists_judged : List ℕ → Result (Judged (List ListRow)) IntakeFault
lists_judged = judged_in Lists is_list_header (next_row_at MOST_STUDENTS list_number choices_of)

-- the faults of a file alone
abbrev pub faults_alone : {A : Type 0} → Result (Judged A) IntakeFault → List IntakeFault
faults_alone (Ok judged) = judged.faults
faults_alone (Err fault) = fault ∷ []

-- what was judged good in a file, where it has rows that can be judged
abbrev pub good_of : {A : Type 0} → Result (Judged A) IntakeFault → Option A
good_of (Ok judged) = Some judged.good
good_of (Err fault) = None

-- a file whose faults are told one after the other: those that are left, its good rows once each fault was told, and
-- those that will be its good rows; there are none where it has no rows that can be judged
pub record Judging (R : Type 0) : Type 0 where
  pub faults : List IntakeFault
  pub rows : Option (List R)
  pub good : Option (List R)

-- every fault was told, and the good rows are there
pub record IsJudged {R : Type 0} (judging : Judging R) : Type 0 where
  pub told : judging.faults ≡ []
  pub rows : judging.rows ≡ judging.good

-- the school of which a record's first field is the number; its zone and its seats are not known
abbrev pub named_school : ℕ → List (List ℕ) → Option SchoolRow
named_school row fields =
    option_map (λ number. record { row = row; number = number; zone = 0; seats = 0 }) (result_ok (number_of (text_at fields 0) >>= as_school))

-- the schools that are known with one more, unless it is among them or they are as many as there may be
abbrev pub with_known : List SchoolRow → Option SchoolRow → List SchoolRow
with_known known (Some school) =
    if nat_le MOST_SCHOOLS (length known) || list_any (nat_eq school.number) (map school_number known) then known else known ++ school ∷ []
with_known known None = known

-- the schools that are known with those that the records from this row on name
unfoldable pub known_from : ℕ → List SchoolRow → List (List (List ℕ)) → List SchoolRow
known_from row known [] = known
known_from row known (fields ∷ rest) = known_from (row + 1) (with_known known (named_school row fields)) rest

abbrev pub known_below : List SchoolRow → Result (ℕ × List (List (List ℕ))) IntakeFault → List SchoolRow
known_below good (Ok below) = known_from 2 good below.1
known_below good (Err fault) = good

-- the schools that are known by the text of their file: the good rows, and after them the schools that other rows name
abbrev pub known_schools : List ℕ → List SchoolRow → List SchoolRow
known_schools text good = known_below good (records_below Schools is_school_header text)

-- the papers after the students of these rows, each judged by those before them whom the papers do not refuse
unfoldable pub students_judged : List ListRow → Judged Market → List RosterRow → Judged Market
students_judged lists so_far [] = so_far
students_judged lists so_far (row ∷ rest) =
    students_judged lists (with_row Roster row.row so_far (entered_by so_far.good row (list_of lists row.student))) rest

-- the fault of a list of nobody in the roster
abbrev pub faults_of_list : List RosterRow → ListRow → List IntakeFault
faults_of_list roster list = if is_in_roster roster list.student then [] else fault_at Lists list.row NotInRoster ∷ []

-- the faults of what the rows say together
abbrev pub faults_of_rows : List ℕ → List SchoolRow → List RosterRow → List ListRow → List IntakeFault
faults_of_rows seed schools roster lists =
    (students_judged lists (unjudged (opening seed schools)) roster).faults ++ flat_map (faults_of_list roster) lists

-- the faults of what three files say together, by their rows that have no fault and the schools that are known beside
-- those; none is told where a file has no rows that can be judged
abbrev pub faults_together : List ℕ → (List SchoolRow → List SchoolRow) → Result (Judged (List SchoolRow)) IntakeFault → Result (Judged (List RosterRow)) IntakeFault → Result (Judged (List ListRow)) IntakeFault → List IntakeFault
faults_together seed known (Ok schools) (Ok roster) (Ok lists) = faults_of_rows seed (known schools.good) roster.good lists.good
faults_together seed known _ _ _ = []

-- every fault of three files: of each alone, in the order schools, roster, lists, and then of what they say together
abbrev pub faults_in : List ℕ → List ℕ → List ℕ → List ℕ → List IntakeFault
faults_in seed schools roster lists =
    faults_alone (schools_judged schools) ++ faults_alone (roster_judged roster) ++ faults_alone (lists_judged lists)
    ++ faults_together seed (known_schools schools) (schools_judged schools) (roster_judged roster) (lists_judged lists)

-- the fault of a row, where its reading has a cause
abbrev pub fault_of : {A : Type 0} → Source → ℕ → Result A Cause → List IntakeFault
fault_of source row (Ok x) = []
fault_of source row (Err cause) = fault_at source row cause ∷ []

-- the faults of a script's records from this row on: a record that is no amendment has one
unfoldable pub script_faults_from : ℕ → List (List (List ℕ)) → List IntakeFault
script_faults_from row [] = []
script_faults_from row (fields ∷ rest) = fault_of Script row (stamped_of fields) ++ script_faults_from (row + 1) rest

abbrev faults_of_script : Result (List (List (List ℕ))) IntakeFault → List IntakeFault
faults_of_script (Ok records) = script_faults_from 1 records
faults_of_script (Err fault) = fault ∷ []

-- every fault of a script
abbrev pub script_faults : List ℕ → List IntakeFault
script_faults text = faults_of_script (records_in Script text)
