-- What listing whom schools admit does, where bytes are known.
use Rattle.std.specs.Prelude.{ℕ, List, Option, None, Some, Result, Ok, Err, if◌then◌else◌}
use Rattle.sc_decimal.specs.Number.{read_number}
use Rattle.sc_papers.specs.Market.{Market, is_school}
use Rattle.sc_papers.specs.declared.school_no.TheConstants.SchoolNo.{GREATEST as greatest_school}
use Rattle.sc_intake.specs.Field.{is_within}
use Rattle.sc_intake.specs.declared.fault.IntakeFault.{IntakeFault}
use Rattle.sc_notices.specs.AdmissionsText.{admissions_of, admissions_text}
use Rattle.sc_steps.specs.declared.fault.RunFault.{RunFault}
use Rattle.sc_runs.specs.Notices.{Notice, TellsStanding}
use Rattle.sc_runs.specs.declared.admitting.Listed.{Listed}
use Rattle.sc_runs.specs.declared.admitting.Listed.TheVariants.{Written, UnknownSchool}
use Rattle.sc_runs.specs.declared.notices.Told.{Told}
use Rattle.sc_runs.specs.declared.notices.Told.TheVariants as told

-- a number as a school's, if it is one
abbrev pub school_of : Option ℕ → Option ℕ
school_of None = None
school_of (Some number) = if is_within 1 greatest_school number then Some number else None

-- the school whose number a text writes, if it writes one
abbrev pub school_in : List ℕ → Option ℕ
school_in text = school_of (read_number text)

-- what is told of schools: their class lists and waiting lists
abbrev pub admissions : Notice ℕ
admissions = record { has = is_school; of_all = admissions_text; of_one = admissions_of }

-- what listing came to, as what asking for a notice did
abbrev pub told_by : Result Listed RunFault → Result (Told ℕ) RunFault
told_by (Ok (Written tail)) = Ok (told.Written tail)
told_by (Ok (UnknownSchool school)) = Ok (told.Unknown school)
told_by (Err fault) = Err fault

-- the lists of the school that is asked for, or of all, are told of the papers that stand
abbrev pub ListsStanding : Option ℕ → Result Market IntakeFault → List ℕ → Option (List ℕ) → Option (List ℕ) → Result Listed RunFault → Type 0
ListsStanding school reading journal old new result = TellsStanding admissions school reading journal old new (told_by result)
