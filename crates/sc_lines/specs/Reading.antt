-- How a line is read. Public contracts do not cite it: they say what text a line is the spelling of.
use Rattle.std.specs.Prelude.{◌≡◌, ◌⊎◌, ℕ, ◌==◌, Bool, ◌&&◌, ◌||◌, nat_le, List, [], ◌∷◌, ◌++◌, length, ok_or, codes, if◌then◌else◌, Option, None, Some, Result, Ok, Err}
use Rattle.std.specs.Borrow.{Bor}
use Rattle.std.specs.List.{slice_split}
use Rattle.std.specs.Str.{bytes_eq}
use Rattle.sc_decimal.specs.Fields.{field_at}
use Rattle.sc_decimal.specs.Number.{read_plain_number}
use Rattle.sc_lottery.specs.declared.number.TheConstants.StudentNumber.{GREATEST as greatest_student}
use Rattle.sc_papers.specs.declared.count.TheConstants.Count.{GREATEST as greatest_count}
use Rattle.sc_papers.specs.declared.school_no.TheConstants.SchoolNo.{GREATEST as greatest_school}
use Rattle.sc_papers.specs.declared.zone.TheConstants.Zone.{GREATEST as greatest_zone}
use Rattle.sc_papers.specs.declared.amendment.Amendment.{Amendment}
use Rattle.sc_papers.specs.declared.amendment.Amendment.TheVariants.{Enter, Withdraw, Rerank, Add, Close, Correct}
use Rattle.sc_lines.specs.declared.line_no.TheConstants.LineNo.{GREATEST as greatest_line}
use Rattle.sc_lines.specs.declared.unread.Unread.{Unread}
use Rattle.sc_lines.specs.declared.unread.Unread.TheVariants.{NoLine, OutOfMemory}
use Rattle.sc_lines.specs.declared.reading.JournalLine.{JournalLine}

-- one step after another: the first error, or what the second gives
infixl 10 ◌>>=◌
abbrev pub ◌>>=◌ : {A B : Type 0} → Result A Unread → (A → Result B Unread) → Result B Unread
Ok x >>= f = f x
Err e >>= f = Err e

-- an answer is what a reading gives, or want of memory
abbrev pub Gives : {A : Type 0} → Result A Unread → Result A Unread → Type 0
Gives reading (Ok x) = reading ≡ Ok x
Gives reading (Err e) = (reading ≡ Err e) ⊎ (e ≡ OutOfMemory)

-- the number that a text of 1 to 9 digits writes, the first of which is 0 only where it is the only one
unfoldable pub number_in : List ℕ → Result ℕ Unread
number_in text = ok_or (read_plain_number text) NoLine

-- a number of a range
abbrev pub within : ℕ → ℕ → ℕ → Result ℕ Unread
within least greatest n = if nat_le least n && nat_le n greatest then Ok n else Err NoLine

-- the number of a range that a text writes
abbrev pub ranged_in : ℕ → ℕ → List ℕ → Result ℕ Unread
ranged_in least greatest text = number_in text >>= within least greatest

-- the student's number that a text writes
abbrev pub student_in : List ℕ → Result ℕ Unread
student_in text = ranged_in 1 greatest_student text

-- the zone that a text writes
abbrev pub zone_in : List ℕ → Result ℕ Unread
zone_in text = ranged_in 0 greatest_zone text

-- the school's number that a text writes
abbrev pub school_in : List ℕ → Result ℕ Unread
school_in text = ranged_in 1 greatest_school text

-- how many seats a text adds or closes
abbrev pub count_in : List ℕ → Result ℕ Unread
count_in text = ranged_in 1 greatest_count text

-- the schools that texts write, after earlier ones
unfoldable pub schools_after : List ℕ → List (List ℕ) → Result (List ℕ) Unread
schools_after earlier [] = Ok earlier
schools_after earlier (text ∷ rest) = school_in text >>= λ s. schools_after (earlier ++ s ∷ []) rest

-- the list of schools that a text writes
unfoldable pub list_in : List ℕ → Result (List ℕ) Unread
list_in text = if length text == 0 then Ok [] else schools_after [] (slice_split (λ c. c == 32) text)

-- the words of the part of a text that is left
abbrev pub words_left : Option (Bor (List ℕ)) → List (List ℕ)
words_left None = []
words_left (Some text) = slice_split (λ c. c == 32) text.now

-- the school's number that a field writes, or none where the fields end before it
unfoldable pub school_or_none_in : List (List ℕ) → ℕ → Result (Option ℕ) Unread
school_or_none_in fields index = if length fields == index then Ok None else school_in (field_at fields index) >>= λ s. Ok (Some s)

-- `N,enter,STUDENT,ZONE,SIBLINGS,CHOICES`, and with a comma the school at which the student continues
unfoldable pub enter_in : List (List ℕ) → Result Amendment Unread
enter_in fields = if length fields == 6 || length fields == 7 then (do
  student ← student_in (field_at fields 2)
  zone ← zone_in (field_at fields 3)
  siblings ← list_in (field_at fields 4)
  choices ← list_in (field_at fields 5)
  continuing ← school_or_none_in fields 6
  Ok (Enter student zone siblings choices continuing)) else Err NoLine

-- `N,withdraw,STUDENT`
unfoldable pub withdraw_in : List (List ℕ) → Result Amendment Unread
withdraw_in fields = if length fields == 3 then (do
  student ← student_in (field_at fields 2)
  Ok (Withdraw student)) else Err NoLine

-- `N,rerank,STUDENT,CHOICES`
unfoldable pub rerank_in : List (List ℕ) → Result Amendment Unread
rerank_in fields = if length fields == 4 then (do
  student ← student_in (field_at fields 2)
  choices ← list_in (field_at fields 3)
  Ok (Rerank student choices)) else Err NoLine

-- `N,add,SCHOOL,COUNT`
unfoldable pub add_in : List (List ℕ) → Result Amendment Unread
add_in fields = if length fields == 4 then (do
  school ← school_in (field_at fields 2)
  count ← count_in (field_at fields 3)
  Ok (Add school count)) else Err NoLine

-- `N,close,SCHOOL,COUNT`
unfoldable pub close_in : List (List ℕ) → Result Amendment Unread
close_in fields = if length fields == 4 then (do
  school ← school_in (field_at fields 2)
  count ← count_in (field_at fields 3)
  Ok (Close school count)) else Err NoLine

-- `N,correct,STUDENT,ZONE,SIBLINGS`, and with a comma the school at which the student continues
unfoldable pub correct_in : List (List ℕ) → Result Amendment Unread
correct_in fields = if length fields == 5 || length fields == 6 then (do
  student ← student_in (field_at fields 2)
  zone ← zone_in (field_at fields 3)
  siblings ← list_in (field_at fields 4)
  continuing ← school_or_none_in fields 5
  Ok (Correct student zone siblings continuing)) else Err NoLine

-- the second field of a line is this word
abbrev pub is_named : List (List ℕ) → List ℕ → Bool
is_named fields word = bytes_eq (field_at fields 1) word

-- the amendment that a line's fields read as, by the word in the second
unfoldable pub amendment_in : List (List ℕ) → Result Amendment Unread
amendment_in fields =
    if is_named fields (codes "enter") then enter_in fields
    else if is_named fields (codes "withdraw") then withdraw_in fields
    else if is_named fields (codes "rerank") then rerank_in fields
    else if is_named fields (codes "add") then add_in fields
    else if is_named fields (codes "close") then close_in fields
    else if is_named fields (codes "correct") then correct_in fields
    else Err NoLine

-- the line that fields read as
unfoldable pub line_of : List (List ℕ) → Result JournalLine Unread
line_of fields = do
  number ← ranged_in 1 greatest_line (field_at fields 0)
  amendment ← amendment_in fields
  Ok (record { number = number; amendment = amendment })

-- the line that a text reads as
abbrev pub line_in : List ℕ → Result JournalLine Unread
line_in text = line_of (slice_split (λ c. c == 44) text)
