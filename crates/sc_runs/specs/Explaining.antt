-- What explaining the choices of students does, where bytes are known.
use Rattle.std.specs.Prelude.{ℕ, List, Option, None, Some, Result, Ok, Err, if◌then◌else◌}
use Rattle.sc_decimal.specs.Number.{read_number}
use Rattle.sc_lottery.specs.declared.number.TheConstants.StudentNumber.{GREATEST as greatest_student}
use Rattle.sc_papers.specs.Market.{Market, is_student}
use Rattle.sc_intake.specs.Field.{is_within}
use Rattle.sc_intake.specs.declared.fault.IntakeFault.{IntakeFault}
use Rattle.sc_notices.specs.ExplanationText.{explanation_of, explanation_text}
use Rattle.sc_steps.specs.declared.fault.RunFault.{RunFault}
use Rattle.sc_runs.specs.Notices.{Notice, TellsStanding}
use Rattle.sc_runs.specs.declared.explaining.Explained.{Explained}
use Rattle.sc_runs.specs.declared.explaining.Explained.TheVariants.{Written, UnknownStudent}
use Rattle.sc_runs.specs.declared.notices.Told.{Told}
use Rattle.sc_runs.specs.declared.notices.Told.TheVariants as told

-- a number as a student's, if it is one
abbrev pub student_of : Option ℕ → Option ℕ
student_of None = None
student_of (Some number) = if is_within 1 greatest_student number then Some number else None

-- the student whose number a text writes, if it writes one
abbrev pub student_in : List ℕ → Option ℕ
student_in text = student_of (read_number text)

-- what is told of students: what came of each of their choices
abbrev pub explanations : Notice ℕ
explanations = record { has = is_student; of_all = explanation_text; of_one = explanation_of }

-- what explaining came to, as what asking for a notice did
abbrev pub told_by : Result Explained RunFault → Result (Told ℕ) RunFault
told_by (Ok (Written tail)) = Ok (told.Written tail)
told_by (Ok (UnknownStudent student)) = Ok (told.Unknown student)
told_by (Err fault) = Err fault

-- what came of the choices of the student who is asked for, or of all, is told of the papers that stand
abbrev pub ExplainsStanding : Option ℕ → Result Market IntakeFault → List ℕ → Option (List ℕ) → Option (List ℕ) → Result Explained RunFault → Type 0
ExplainsStanding student reading journal old new result = TellsStanding explanations student reading journal old new (told_by result)
