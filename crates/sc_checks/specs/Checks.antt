-- Every fault of three files and of a script.
use Rattle.std.specs.Prelude.{ℕ, List, [], ◌++◌, Option, None, Some}
use Rattle.sc_intake.specs.Checking.{faults_in, faults_of_rows, script_faults}
use Rattle.sc_intake.specs.declared.fault.IntakeFault.{IntakeFault}
use Rattle.sc_intake.specs.declared.lists.ListRow.{ListRow}
use Rattle.sc_intake.specs.declared.roster.RosterRow.{RosterRow}
use Rattle.sc_intake.specs.declared.schools.SchoolRow.{SchoolRow}

-- every fault of three files, and then those of a script, where no script is one without a record
abbrev pub every_fault : List ℕ → List ℕ → List ℕ → List ℕ → List ℕ → List IntakeFault
every_fault seed schools roster lists script = faults_in seed schools roster lists ++ script_faults script

-- the faults of what good rows say together, by the schools that are known, where each file has rows
abbrev pub faults_of_good : List ℕ → (List SchoolRow → List SchoolRow) → Option (List SchoolRow) → Option (List RosterRow) → Option (List ListRow) → List IntakeFault
faults_of_good seed known (Some schools) (Some roster) (Some lists) = faults_of_rows seed (known schools) roster lists
faults_of_good seed known (Some schools) (Some roster) None = []
faults_of_good seed known (Some schools) None lists = []
faults_of_good seed known None roster lists = []
