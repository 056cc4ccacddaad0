-- How the code keeps rows, fields and inputs. Other contracts see what these give.
use Rattle.std.specs.Prelude.{◌≡◌, ℕ, ◌+◌, ◌≤◌, ◌^◌, List, [], drop, length, map, option_map, unwrap_or, IfSome}
use Rattle.sc_intake.specs.Checking.{IsJudged}
use Rattle.sc_intake.specs.Papers.{ArePositions}
use Rattle.sc_intake.specs.declared.lists.ListRow.{ListRow}
use Rattle.sc_checks.specs.Choices.{good_lists, ToldList}
use Rattle.sc_checks.specs.Columns.{Field}
use Rattle.sc_checks.specs.FaultLines.{File, Files, Names}
use Rattle.sc_checks.specs.Lines.{row_at, rows_from, rows_of, Row}
use Rattle.sc_checks.specs.declared.choices.ListTable.{ListTable}
use Rattle.sc_checks.specs.declared.choices.RefusedList.{RefusedList}
use Rattle.sc_checks.specs.declared.columns.ToldField.{ToldField}
use Rattle.sc_checks.specs.declared.files.FileNames.{FileNames}
use Rattle.sc_checks.specs.declared.files.InputFile.{InputFile}
use Rattle.sc_checks.specs.declared.files.InputFiles.{InputFiles}
use Rattle.sc_checks.specs.declared.lines.Rest.{Rest}
use Rattle.sc_checks.specs.declared.lines.RowFinder.{RowFinder}
use Rattle.sc_checks.specs.declared.lines.RowLine.{RowLine}
use Rattle.sc_checks.specs.declared.text.Finders.{Finders}
use Rattle.sc_checks.specs.declared.text.Teller.{Teller}

-- a row that was found
abbrev pub row_view : RowLine → Row
row_view found = record { line = found.line; bytes = found.bytes.now }

-- the rows of what is left of a text
abbrev pub rows_left : Rest → List Row
rows_left rest = rows_from rest.line [] rest.text.now

-- a field that is told
abbrev pub field_view : ToldField → Field
field_view field = record { column = field.column; value = field.value.now }

-- the names of the inputs
abbrev pub names_view : FileNames → Names
names_view names = record { schools = names.schools.now; roster = names.roster.now; lists = names.lists.now; script = names.script.now }

-- an input by its name and its text
abbrev pub file_view : InputFile → File
file_view file = record { name = file.name.now; text = file.text.now }

-- the inputs by their names and their texts
abbrev pub files_view : InputFiles → Files
files_view files = record {
  schools = file_view files.schools;
  roster = file_view files.roster;
  lists = file_view files.lists;
  script = file_view files.script;
}

-- a place in a text: what is left has the rows that were not passed, and its lines can be counted
pub record Finds (text : List ℕ) (finder : RowFinder) : Type 0 where
  pub left : drop finder.passed (rows_of text) ≡ rows_left finder.rest
  pub lines : finder.rest.line + length finder.rest.text.now ≤ 2 ^ 63

-- a place in each of the inputs
pub record FindsIn (files : Files) (finders : Finders) : Type 0 where
  pub schools : Finds files.schools.text finders.schools
  pub roster : Finds files.roster.text finders.roster
  pub lists : Finds files.lists.text finders.lists
  pub script : Finds files.script.text finders.script

-- a list that is told
abbrev pub refused_view : RefusedList → ToldList
refused_view list = record { row = list.row; student = list.student; line = option_map row_view list.line }

-- a table of these lists of a text: each by its student's number, and the line at which it stands
pub record IsTableOf (text : List ℕ) (lists : List ListRow) (table : ListTable) : Type 0 where
  pub judged : IsJudged table.sheet
  pub same : unwrap_or table.sheet.good [] ≡ lists
  pub positions : ArePositions table.positions (unwrap_or table.sheet.good []) (unwrap_or table.sheet.good [])
  pub lines : map (option_map row_view) table.lines.items ≡ map (λ list. row_at text list.row) (unwrap_or table.sheet.good [])

-- lines are made from the inputs: each place is one in its input, and the table, if there is one, is that of the lists
pub record Tells (teller : Teller) : Type 0 where
  pub finds : FindsIn (files_view teller.files) teller.finders
  pub table : IfSome teller.table (IsTableOf teller.files.lists.text.now (good_lists teller.files.lists.text.now))
