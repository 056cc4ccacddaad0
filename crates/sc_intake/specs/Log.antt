-- What a log reads as: its rejections, or its first fault.
use Rattle.std.specs.Prelude.{ℕ, ◌==◌, List, [], length, if◌then◌else◌, Result, Ok, Err}
use Rattle.sc_papers.specs.declared.rejection.Rejection.{Rejection}
use Rattle.sc_intake.specs.Fault.{◌>>=◌}
use Rattle.sc_intake.specs.Field.{as_school, as_student, number_of}
use Rattle.sc_intake.specs.File.{records_in, rows_after, text_at}
use Rattle.sc_intake.specs.declared.fault.Cause.{Cause}
use Rattle.sc_intake.specs.declared.fault.Cause.TheVariants.{Fields}
use Rattle.sc_intake.specs.declared.fault.IntakeFault.{IntakeFault}
use Rattle.sc_intake.specs.declared.fault.Source.TheVariants.{Log}

-- the rejection that these fields read as, `STUDENT,SCHOOL`
abbrev pub rejection_of : List (List ℕ) → Result Rejection Cause
rejection_of fields = if length fields == 2 then (do
  a ← number_of (text_at fields 0)
  b ← number_of (text_at fields 1)
  student ← as_student a
  school ← as_school b
  Ok (record { student = student; school = school })) else Err Fields

-- the rejection after earlier ones, whatever they are
abbrev pub next_rejection : List Rejection → List (List ℕ) → Result Rejection Cause
next_rejection earlier fields = rejection_of fields

-- the rejections that records read as, after earlier ones: a log has no header, and so they begin at row 1
abbrev pub log_after : List Rejection → List (List (List ℕ)) → Result (List Rejection) IntakeFault
log_after earlier records = rows_after 1 Log next_rejection earlier records

-- the rejections of a log
abbrev pub log_in : List ℕ → Result (List Rejection) IntakeFault
log_in text = records_in Log text >>= log_after []
