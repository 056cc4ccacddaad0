-- The roster and the lists, read together. Only the crate's own functions and their proofs need this.
use Rattle.std.specs.Prelude.{◌≡◌, ℕ, List, [], Some, Result, Ok}
use Rattle.sc_papers.specs.Market.{Market}
use Rattle.sc_intake.specs.Fault.{◌>>=◌}
use Rattle.sc_intake.specs.File.{rows_after}
use Rattle.sc_intake.specs.Lists.{choices_of, lists_in, next_list}
use Rattle.sc_intake.specs.Papers.{entered_by, filled, papers_of}
use Rattle.sc_intake.specs.Roster.{next_student, roster_in}
use Rattle.sc_intake.specs.Tidy.{TakesRow}
use Rattle.sc_intake.specs.declared.fault.IntakeFault.{IntakeFault}
use Rattle.sc_intake.specs.declared.fault.Source.TheVariants.{Roster, Lists}
use Rattle.sc_intake.specs.declared.lists.ListRow.{ListRow}
use Rattle.sc_intake.specs.declared.roster.RosterRow.{RosterRow}
use Rattle.sc_intake.specs.declared.schools.SchoolRow.{SchoolRow}

-- the papers that a roster and lists make under these schools, or the first fault
abbrev pub papers_below : List ℕ → List SchoolRow → List ℕ → List ℕ → Result Market IntakeFault
papers_below seed schools roster lists = do
  roster_rows ← roster_in roster
  list_rows ← lists_in lists
  papers_of seed schools roster_rows list_rows

-- the first of the lists is of the student of this row of the roster, who enters papers `m` by it, so that they are now `n`
pub record EntersNext (width number : ℕ) (lists lists_left : List (List (List ℕ))) (m : Market) (row : RosterRow) (n : Market) : Type 0 where
  pub list : ListRow
  pub takes : TakesRow choices_of width number lists lists_left list
  pub same : row.student ≡ list.student
  pub entered : entered_by m row (Some list) ≡ Ok n

-- the records of a roster and of lists, under headers of so many fields, are rows that fill papers `m`, so that they are now `n`
pub record Fill (width list_width : ℕ) (roster lists : List (List (List ℕ))) (m n : Market) : Type 0 where
  pub roster_rows : List RosterRow
  pub list_rows : List ListRow
  pub roster_read : rows_after 2 Roster (next_student width) [] roster ≡ Ok roster_rows
  pub lists_read : rows_after 2 Lists (next_list list_width) [] lists ≡ Ok list_rows
  pub full : filled m roster_rows list_rows ≡ Ok n
