-- The papers that the rows of the three files make, or the first fault.
use Rattle.std.specs.Prelude.{◌≡◌, ◌⊎◌, ℕ, nat_eq, Bool, not, List, [], ◌∷◌, map, find, slice_get, Option, None, Some, option_and_then, Result, Ok, Err}
use Rattle.std.specs.BTreeMap.{BTreeMap, get}
use Rattle.std.specs.Ordering.{nat_cmp}
use Rattle.std.specs.List.{list_any}
use Rattle.sc_papers.specs.Market.{Market, is_student}
use Rattle.sc_papers.specs.Verdict.{after, verdict}
use Rattle.sc_papers.specs.declared.amendment.Amendment.{Amendment}
use Rattle.sc_papers.specs.declared.amendment.Amendment.TheVariants.{Enter}
use Rattle.sc_papers.specs.declared.amendment.Refusal.{Refusal}
use Rattle.sc_papers.specs.declared.amendment.Refusal.TheVariants.{OutOfMemory}
use Rattle.sc_intake.specs.Fault.{◌>>=◌, fault_at, no_memory}
use Rattle.sc_intake.specs.File.{in_row}
use Rattle.sc_intake.specs.declared.fault.Cause.{Cause}
use Rattle.sc_intake.specs.declared.fault.Cause.TheVariants.{NoList, NotInRoster, Refused, OutOfMemory as no_room}
use Rattle.sc_intake.specs.declared.fault.IntakeFault.{IntakeFault}
use Rattle.sc_intake.specs.declared.fault.Source.TheVariants.{Schools, Roster, Lists}
use Rattle.sc_intake.specs.declared.lists.ListRow.{ListRow}
use Rattle.sc_intake.specs.declared.roster.RosterRow.{RosterRow}
use Rattle.sc_intake.specs.declared.schools.SchoolRow.{SchoolRow}
use Rattle.sc_intake.specs.Lists.{lists_in}
use Rattle.sc_intake.specs.Roster.{roster_in}
use Rattle.sc_intake.specs.Schools.{schools_in}

-- the papers with these schools, in the order of their rows, before any student
abbrev pub opening : List ℕ → List SchoolRow → Market
opening seed schools =
    record { seed = seed; schools = map (λ row. (row.number, record { zone = row.zone; seats = row.seats })) schools; students = [] }

-- a student's row of the lists
abbrev pub list_of : List ListRow → ℕ → Option ListRow
list_of lists i = find (λ list. nat_eq i list.student) lists

-- the cause of a student whom the papers refuse
abbrev pub cause_of : Refusal → Cause
cause_of OutOfMemory = no_room
cause_of refusal = Refused refusal

-- the papers after an amendment, unless it is refused
abbrev pub unless_refused : Market → Amendment → Option Refusal → Result Market Cause
unless_refused m a None = Ok (after m a)
unless_refused m a (Some r) = Err (cause_of r)

-- the papers after an amendment, or the cause of its refusal
abbrev pub amended : Market → Amendment → Result Market Cause
amended m a = unless_refused m a (verdict m a)

-- the papers after a student has entered by these rows of the roster and of the lists
abbrev pub entered_by : Market → RosterRow → Option ListRow → Result Market Cause
entered_by m row None = Err NoList
entered_by m row (Some list) = amended m (Enter row.student row.zone row.siblings list.choices row.continuing)

-- the papers after the students of the roster have entered, in the order of its rows
unfoldable pub all_entered : List ListRow → Market → List RosterRow → Result Market IntakeFault
all_entered lists m [] = Ok m
all_entered lists m (row ∷ rest) =
    in_row Roster row.row (entered_by m row (list_of lists row.student)) >>= λ n. all_entered lists n rest

-- the papers, unless this list is of a student who is not in the roster
abbrev pub unless_not_in_roster : Market → Option ListRow → Result Market IntakeFault
unless_not_in_roster m None = Ok m
unless_not_in_roster m (Some list) = Err (fault_at Lists list.row NotInRoster)

-- a student is in the roster
abbrev pub is_in_roster : List RosterRow → ℕ → Bool
is_in_roster roster i = list_any (λ row. nat_eq i row.student) roster

-- the first list whose student is not in the roster
abbrev pub first_not_in_roster : List RosterRow → List ListRow → Option ListRow
first_not_in_roster roster lists = find (λ list. not (is_in_roster roster list.student)) lists

-- papers with schools alone after the students of the roster have entered, unless a list is of nobody
-- in the roster
unfoldable pub filled : Market → List RosterRow → List ListRow → Result Market IntakeFault
filled m roster lists = all_entered lists m roster >>= λ n. unless_not_in_roster n (first_not_in_roster roster lists)

-- the papers that the rows make
abbrev pub papers_of : List ℕ → List SchoolRow → List RosterRow → List ListRow → Result Market IntakeFault
papers_of seed schools roster lists = filled (opening seed schools) roster lists

-- the papers that three texts make under a seed, or the first fault: of the schools, the roster, the
-- lists, and then of what they say together
abbrev pub papers_in : List ℕ → List ℕ → List ℕ → List ℕ → Result Market IntakeFault
papers_in seed schools roster lists = do
  school_rows ← schools_in schools
  roster_rows ← roster_in roster
  list_rows ← lists_in lists
  papers_of seed school_rows roster_rows list_rows

-- want of memory in reading one of the three files, or in making their papers, which is told of the roster
abbrev pub IsWantOfMemory : IntakeFault → Type 0
IsWantOfMemory fault = (fault ≡ no_memory Schools) ⊎ ((fault ≡ no_memory Roster) ⊎ (fault ≡ no_memory Lists))

-- Below: what only functions that are not public need.

-- the first list whose student is not in the papers
abbrev pub unknown_list : Market → List ListRow → Option ListRow
unknown_list m lists = find (λ list. not (is_student m list.student)) lists

-- the map gives the position of each student's row of the lists
abbrev pub ArePositions : BTreeMap ℕ ℕ → List ListRow → List ListRow → Type 0
ArePositions positions lists part = (i : ℕ) → option_and_then (slice_get lists) (get nat_cmp positions i) ≡ list_of part i
