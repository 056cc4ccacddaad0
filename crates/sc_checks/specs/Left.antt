-- The faults that are left to be told, by how they are kept. Other contracts see the list of them alone.
use Rattle.std.specs.Prelude.{◌≡◌, ℕ, List, ◌++◌, drop}
use Rattle.sc_intake.specs.Checking.{known_schools, IsJudged}
use Rattle.sc_intake.specs.declared.fault.IntakeFault.{IntakeFault}
use Rattle.sc_checks.specs.Checks.{faults_of_good}
use Rattle.sc_checks.specs.declared.checking.Files.{Files}
use Rattle.sc_checks.specs.declared.checking.OfFiles.{OfFiles}
use Rattle.sc_checks.specs.declared.checking.OfFiles.TheVariants.{Alone, Together}
use Rattle.sc_checks.specs.declared.checking.Found.{Found}

-- the faults of each file alone that are left
abbrev pub left_alone : Files → List IntakeFault
left_alone files = files.schools.faults ++ files.roster.faults ++ files.lists.faults

-- each file was judged to its end
pub record AreJudged (files : Files) : Type 0 where
  pub schools : IsJudged files.schools
  pub roster : IsJudged files.roster
  pub lists : IsJudged files.lists

-- the rows of the files that will be good are the same
pub record AreSameGood (old new : Files) : Type 0 where
  pub schools : new.schools.good ≡ old.schools.good
  pub roster : new.roster.good ≡ old.roster.good
  pub lists : new.lists.good ≡ old.lists.good

-- the faults that were found and are left
abbrev pub left_found : Found → List IntakeFault
left_found found = drop found.told found.faults.items

-- the faults of what the good rows say together
abbrev pub said_together : List ℕ → List ℕ → Files → List IntakeFault
said_together seed schools files = faults_of_good seed (known_schools schools) files.schools.good files.roster.good files.lists.good

-- the faults of the files that are left: those of each alone, and all of what their rows say together until these are found
abbrev pub left_of : List ℕ → List ℕ → OfFiles → List IntakeFault
left_of seed schools (Alone files) = left_alone files ++ said_together seed schools files
left_of seed schools (Together found) = left_found found

-- all that are left
abbrev pub left_in : List ℕ → List ℕ → OfFiles → List IntakeFault → List IntakeFault
left_in seed schools files script = left_of seed schools files ++ script
