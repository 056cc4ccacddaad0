-- What a script reads as: each of its records is a stamped amendment, or `Shape`.
use Rattle.std.specs.Prelude.{ℕ, ◌==◌, Bool, ◌||◌, Option, List, length, map, codes, if◌then◌else◌, Result, Ok, Err}
use Rattle.std.specs.Str.{bytes_eq}
use Rattle.sc_lottery.specs.declared.number.TheConstants.StudentNumber.{GREATEST as greatest_student}
use Rattle.sc_papers.specs.declared.amendment.Amendment.{Amendment}
use Rattle.sc_papers.specs.declared.amendment.Amendment.TheVariants.{Enter, Withdraw, Rerank, Add, Close, Correct}
use Rattle.sc_papers.specs.declared.amendment.Refusal.{Refusal}
use Rattle.sc_papers.specs.declared.amendment.Refusal.TheVariants.{Shape}
use Rattle.sc_papers.specs.declared.amendment.Stamped.{Stamped}
use Rattle.sc_papers.specs.declared.count.TheConstants.Count.{GREATEST as greatest_count}
use Rattle.sc_papers.specs.declared.school_no.TheConstants.SchoolNo.{GREATEST as greatest_school}
use Rattle.sc_papers.specs.declared.stamp.TheConstants.Stamp.{GREATEST as greatest_stamp}
use Rattle.sc_papers.specs.declared.zone.TheConstants.Zone.{GREATEST as greatest_zone}
use Rattle.sc_intake.specs.Fault.{◌>>=◌}
use Rattle.sc_intake.specs.Field.{all_schools, as_school_or_none, numbers_in, number_of, number_or_none, within}
use Rattle.sc_intake.specs.File.{records_in, text_at}
use Rattle.sc_intake.specs.declared.fault.Cause.{Cause}
use Rattle.sc_intake.specs.declared.fault.Cause.TheVariants.{Fields}
use Rattle.sc_intake.specs.declared.fault.IntakeFault.{IntakeFault}
use Rattle.sc_intake.specs.declared.fault.Source.TheVariants.{Script}

-- the number of a range that a field writes
abbrev pub number_at : ℕ → ℕ → List (List ℕ) → ℕ → Result ℕ Cause
number_at least greatest fields index = number_of (text_at fields index) >>= within least greatest

-- the stamp that a field writes
abbrev pub stamp_at : List (List ℕ) → ℕ → Result ℕ Cause
stamp_at = number_at 0 greatest_stamp

-- the student's number that a field writes
abbrev pub student_at : List (List ℕ) → ℕ → Result ℕ Cause
student_at = number_at 1 greatest_student

-- the zone that a field writes
abbrev pub zone_at : List (List ℕ) → ℕ → Result ℕ Cause
zone_at = number_at 0 greatest_zone

-- the school's number that a field writes
abbrev pub school_at : List (List ℕ) → ℕ → Result ℕ Cause
school_at = number_at 1 greatest_school

-- how many seats a field adds or closes
abbrev pub count_at : List (List ℕ) → ℕ → Result ℕ Cause
count_at = number_at 1 greatest_count

-- the list of schools that a field writes, of any length
unfoldable pub list_at : List (List ℕ) → ℕ → Result (List ℕ) Cause
list_at fields index = numbers_in (text_at fields index) >>= all_schools

-- the school's number that a field writes, or none where it is empty or not there
abbrev pub school_or_none_at : List (List ℕ) → ℕ → Result (Option ℕ) Cause
school_or_none_at fields index = number_or_none (text_at fields index) >>= as_school_or_none

-- `STAMP,enter,STUDENT,ZONE,SIBLINGS,CHOICES`, and with a comma the school at which the student continues
unfoldable pub enter_of : List (List ℕ) → Result Amendment Cause
enter_of fields = if length fields == 6 || length fields == 7 then (do
  student ← student_at fields 2
  zone ← zone_at fields 3
  siblings ← list_at fields 4
  choices ← list_at fields 5
  continuing ← school_or_none_at fields 6
  Ok (Enter student zone siblings choices continuing)) else Err Fields

-- `STAMP,withdraw,STUDENT`
unfoldable pub withdraw_of : List (List ℕ) → Result Amendment Cause
withdraw_of fields = if length fields == 3 then (do
  student ← student_at fields 2
  Ok (Withdraw student)) else Err Fields

-- `STAMP,rerank,STUDENT,CHOICES`
unfoldable pub rerank_of : List (List ℕ) → Result Amendment Cause
rerank_of fields = if length fields == 4 then (do
  student ← student_at fields 2
  choices ← list_at fields 3
  Ok (Rerank student choices)) else Err Fields

-- `STAMP,add,SCHOOL,COUNT`
unfoldable pub add_of : List (List ℕ) → Result Amendment Cause
add_of fields = if length fields == 4 then (do
  school ← school_at fields 2
  count ← count_at fields 3
  Ok (Add school count)) else Err Fields

-- `STAMP,close,SCHOOL,COUNT`
unfoldable pub close_of : List (List ℕ) → Result Amendment Cause
close_of fields = if length fields == 4 then (do
  school ← school_at fields 2
  count ← count_at fields 3
  Ok (Close school count)) else Err Fields

-- `STAMP,correct,STUDENT,ZONE,SIBLINGS`, and with a comma the school at which the student continues
unfoldable pub correct_of : List (List ℕ) → Result Amendment Cause
correct_of fields = if length fields == 5 || length fields == 6 then (do
  student ← student_at fields 2
  zone ← zone_at fields 3
  siblings ← list_at fields 4
  continuing ← school_or_none_at fields 5
  Ok (Correct student zone siblings continuing)) else Err Fields

-- the field of a record after its stamp is this word
abbrev pub begins : List (List ℕ) → List ℕ → Bool
begins fields word = bytes_eq (text_at fields 1) word

-- the amendment that these fields read as, by the word after the stamp
unfoldable pub amendment_of : List (List ℕ) → Result Amendment Cause
amendment_of fields =
    if begins fields (codes "enter") then enter_of fields
    else if begins fields (codes "withdraw") then withdraw_of fields
    else if begins fields (codes "rerank") then rerank_of fields
    else if begins fields (codes "add") then add_of fields
    else if begins fields (codes "close") then close_of fields
    else if begins fields (codes "correct") then correct_of fields
    else Err Fields

-- the stamped amendment that these fields read as: the stamp is in the first
unfoldable pub stamped_of : List (List ℕ) → Result Stamped Cause
stamped_of fields = do
  stamp ← stamp_at fields 0
  amendment ← amendment_of fields
  Ok (record { stamp = stamp; amendment = amendment })

-- whatever is wrong with a record, it is `Shape`
abbrev pub or_shape : Result Stamped Cause → Result Stamped Refusal
or_shape (Ok stamped) = Ok stamped
or_shape (Err cause) = Err Shape

-- what a record of a script is: a stamped amendment, or `Shape`
abbrev pub stamped_in : List (List ℕ) → Result Stamped Refusal
stamped_in fields = or_shape (stamped_of fields)

-- the records of a script
abbrev pub script_in : List ℕ → Result (List (Result Stamped Refusal)) IntakeFault
script_in text = records_in Script text >>= λ records. Ok (map stamped_in records)
