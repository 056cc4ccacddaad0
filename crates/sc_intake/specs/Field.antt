-- What the fields of a record read as.
use Rattle.std.specs.Prelude.{ℕ, ◌==◌, Bool, ◌&&◌, nat_le, List, [], ◌∷◌, ◌++◌, length, if◌then◌else◌, ok_or, Option, None, Some, Result, Ok, Err}
use Rattle.std.specs.List.{list_all}
use Rattle.sc_decimal.specs.Number.{read_number}
use Rattle.sc_lottery.specs.declared.number.TheConstants.StudentNumber.{GREATEST as greatest_student}
use Rattle.sc_papers.specs.declared.count.TheConstants.Count.{GREATEST as greatest_count}
use Rattle.sc_papers.specs.declared.school_no.TheConstants.SchoolNo.{GREATEST as greatest_school}
use Rattle.sc_papers.specs.declared.seats.TheConstants.Seats.{GREATEST as greatest_seats}
use Rattle.sc_papers.specs.declared.stamp.TheConstants.Stamp.{GREATEST as greatest_stamp}
use Rattle.sc_papers.specs.declared.zone.TheConstants.Zone.{GREATEST as greatest_zone}
use Rattle.sc_intake.specs.Fault.{◌>>=◌}
use Rattle.sc_intake.specs.declared.fault.Cause.{Cause}
use Rattle.sc_intake.specs.declared.fault.Cause.TheVariants.{Number, Range}

-- the number that a text of 1 to 9 decimal digits writes
unfoldable pub number_of : List ℕ → Result ℕ Cause
number_of text = ok_or (read_number text) Number

-- the number that a text writes, or none where it is empty
unfoldable pub number_or_none : List ℕ → Result (Option ℕ) Cause
number_or_none text = if length text == 0 then Ok None else number_of text >>= λ n. Ok (Some n)

-- a piece of a text as a word, where it has a byte
abbrev pub word_of : List ℕ → List (List ℕ)
word_of [] = []
word_of (c ∷ cs) = (c ∷ cs) ∷ []

-- the words of a text, after the bytes of a piece that has begun
unfoldable pub words_after : List ℕ → List ℕ → List (List ℕ)
words_after piece [] = word_of piece
words_after piece (c ∷ cs) = if c == 32 then word_of piece ++ words_after [] cs else words_after (piece ++ c ∷ []) cs

-- the words of a text: its pieces between the spaces, without the empty ones
abbrev pub words : List ℕ → List (List ℕ)
words text = words_after [] text

-- the bytes of a text before its first space
unfoldable pub first_word : List ℕ → List ℕ
first_word [] = []
first_word (c ∷ cs) = if c == 32 then [] else c ∷ first_word cs

-- the number that a text begins with, and how many bytes write it
unfoldable pub first_number : List ℕ → Result (ℕ × ℕ) Cause
first_number text = number_of (first_word text) >>= λ n. Ok (n, length (first_word text))

-- the numbers that words write, after earlier ones
unfoldable pub numbers_after : List ℕ → List (List ℕ) → Result (List ℕ) Cause
numbers_after earlier [] = Ok earlier
numbers_after earlier (w ∷ ws) = number_of w >>= λ n. numbers_after (earlier ++ n ∷ []) ws

-- the numbers of a list: a text of numbers with spaces between them
abbrev pub numbers_in : List ℕ → Result (List ℕ) Cause
numbers_in text = numbers_after [] (words text)

-- a number is within a range
abbrev pub is_within : ℕ → ℕ → ℕ → Bool
is_within least greatest n = nat_le least n && nat_le n greatest

-- a number of a range
abbrev pub within : ℕ → ℕ → ℕ → Result ℕ Cause
within least greatest n = if is_within least greatest n then Ok n else Err Range

-- a student's number
abbrev pub as_student : ℕ → Result ℕ Cause
as_student = within 1 greatest_student

-- a zone, 0 where there is none
abbrev pub as_zone : ℕ → Result ℕ Cause
as_zone = within 0 greatest_zone

-- a school's number
abbrev pub as_school : ℕ → Result ℕ Cause
as_school = within 1 greatest_school

-- a school's number, if there is one
abbrev pub as_school_or_none : Option ℕ → Result (Option ℕ) Cause
as_school_or_none None = Ok None
as_school_or_none (Some n) = as_school n >>= λ s. Ok (Some s)

-- how many seats a school has
abbrev pub as_seats : ℕ → Result ℕ Cause
as_seats = within 0 greatest_seats

-- how many seats are added or closed
abbrev pub as_count : ℕ → Result ℕ Cause
as_count = within 1 greatest_count

-- the stamp of a record
abbrev pub as_stamp : ℕ → Result ℕ Cause
as_stamp = within 0 greatest_stamp

-- the numbers of a list of schools
abbrev pub all_schools : List ℕ → Result (List ℕ) Cause
all_schools ns = if list_all (is_within 1 greatest_school) ns then Ok ns else Err Range

-- what a list of schools reads as: its numbers have to be numbers before one of them is out of range
abbrev pub listed : List ℕ → Result (Result (List ℕ) Cause) Cause
listed text = numbers_in text >>= λ numbers. Ok (all_schools numbers)
