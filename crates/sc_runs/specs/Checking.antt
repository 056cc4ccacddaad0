-- What checking files does, where bytes are known.
use Rattle.std.specs.Prelude.{◌≡◌, ◌⊎◌, ℕ, List, [], ◌∷◌, ◌++◌, Option, Result, Ok, Err}
use Rattle.std.specs.Io.KnownBytes.{Appends}
use Rattle.sc_intake.specs.declared.fault.IntakeFault.{IntakeFault}
use Rattle.sc_checks.specs.Checks.{every_fault}
use Rattle.sc_checks.specs.FaultLines.{faults_text, files_of, Files, Names}
use Rattle.sc_report.specs.Whole.{AppendsPrefix}
use Rattle.sc_steps.specs.Inputs.{in_order, Texts, Turn, AreRead, IsReadIfAny}
use Rattle.sc_steps.specs.Opening.{EndsUnread}
use Rattle.sc_steps.specs.declared.fault.RunFault.{RunFault}
use Rattle.sc_steps.specs.declared.fault.RunFault.TheVariants.{WriteOut, OutOfMemory}
use Rattle.sc_runs.specs.declared.checking.Checked.{Checked}
use Rattle.sc_runs.specs.declared.checking.Checked.TheVariants.{Clean, Faulty}

-- whether there is a fault
abbrev pub checked_of : List IntakeFault → Checked
checked_of [] = Clean
checked_of (fault ∷ rest) = Faulty

-- a writer was given the lines of these faults of inputs, and it was answered whether there is one; a prefix of the lines
-- where the writer failed, and at want of memory
abbrev pub WritesFaults : Files → List IntakeFault → Option (List ℕ) → Option (List ℕ) → Result Checked RunFault → Type 0
WritesFaults files faults old new (Ok checked) = (checked ≡ checked_of faults) × Appends old new (faults_text files faults)
WritesFaults files faults old new (Err WriteOut) = AppendsPrefix old new (faults_text files faults)
WritesFaults files faults old new (Err OutOfMemory) = AppendsPrefix old new (faults_text files faults)
WritesFaults files faults old new (Err _) = ⊥

-- the lines of every fault of these texts and of a script, under their names, were written; no seed changes them
abbrev pub WritesEveryFault : Names → Texts → List ℕ → Option (List ℕ) → Option (List ℕ) → Result Checked RunFault → Type 0
WritesEveryFault names texts script old new result = (seed : List ℕ)
    → WritesFaults (files_of names texts.schools texts.roster texts.lists script) (every_fault seed texts.schools texts.roster texts.lists script) old new result

-- what checking files of these names did, given the turns of the opening and of the script: reading them ended early, and
-- nothing was written; or they were read, each whole, and every fault of them was written
abbrev pub ChecksFiles : Names → List Turn → List Turn → Option (List ℕ) → Option (List ℕ) → Result Checked RunFault → Type 0
ChecksFiles names opening script old new result = EndsUnread (opening ++ script) old new result
    ⊎ ((texts : Texts) × (text : List ℕ) × AreRead opening (in_order texts) × IsReadIfAny script text × WritesEveryFault names texts text old new result)
