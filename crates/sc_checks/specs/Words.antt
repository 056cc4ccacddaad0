-- What is expected, in words.
use Rattle.std.specs.Prelude.{ℕ, Bool, ◌==◌, ◌&&◌, nat_le, not, List, [], ◌++◌, codes, if◌then◌else◌}
use Rattle.std.specs.List.{list_any}
use Rattle.std.specs.Fmt.{decimal}
use Rattle.sc_papers.specs.declared.amendment.Refusal.{Refusal}
use Rattle.sc_papers.specs.declared.amendment.Refusal.TheVariants.{EmptyList, ListTooLong, UnknownSchool, SchoolTwice}
use Rattle.sc_intake.specs.File.{is_marked}
use Rattle.sc_intake.specs.declared.fault.Cause.{Cause}
use Rattle.sc_intake.specs.declared.fault.Cause.TheVariants.{TooLong, Header, Fields, Number, Range, Twice, NoList, NotInRoster, Refused, OutOfMemory}
use Rattle.sc_intake.specs.declared.fault.Source.{Source}
use Rattle.sc_intake.specs.declared.fault.Source.TheVariants.{Schools, Roster, Lists}
use Rattle.sc_checks.specs.declared.columns.Column.{Column}
use Rattle.sc_checks.specs.declared.columns.Column.TheVariants.{School, Zone, Seats, Student, Siblings, Continuing, Choices, Stamp, Word, Count}
use Rattle.sc_checks.specs.declared.forms.Form.{Form}
use Rattle.sc_checks.specs.declared.forms.Form.TheVariants.{SchoolRow, RosterRow, ListRow, Enter, Withdraw, Rerank, AddOrClose, Correct, Unknown}

-- the header of an input; a script has none, and no input has two byte order marks
abbrev pub header_words : Source → List ℕ
header_words Schools = codes "the header school,zone,seats is expected"
header_words Roster = codes "the header student,zone,siblings is expected, or student,zone,siblings,continuing"
header_words Lists = codes "the header student,choices is expected"
header_words _ = codes "one byte order mark at most is expected"

-- a text has this byte
abbrev pub has_byte : ℕ → List ℕ → Bool
has_byte byte text = list_any (λ c. c == byte) text

-- a text has a capital letter
abbrev pub has_capital : List ℕ → Bool
has_capital text = list_any (λ c. nat_le 65 c && nat_le c 90) text

-- why a line, without the blanks around it, may be no header, where it can be seen
abbrev pub hint_words : List ℕ → List ℕ
hint_words line =
    if is_marked line then codes "; a byte order mark stands here"
    else if has_byte 0 line then codes "; this is UTF-16, and UTF-8 is expected"
    else if has_byte 59 line then codes "; the fields stand between semicolons"
    else if has_byte 9 line && not (has_byte 44 line) then codes "; the fields stand between tabs"
    else if has_capital line then codes "; it has capital letters"
    else []

-- how many fields a form has
abbrev pub count_words : Form → List ℕ
count_words SchoolRow = codes "3 fields are expected"
count_words RosterRow = codes "as many fields as in the header are expected"
count_words ListRow = codes "2 fields are expected"
count_words Enter = codes "6 or 7 fields are expected"
count_words Withdraw = codes "3 fields are expected"
count_words Rerank = codes "4 fields are expected"
count_words AddOrClose = codes "4 fields are expected"
count_words Correct = codes "5 or 6 fields are expected"
count_words Unknown = codes "one of the words enter, withdraw, rerank, add, close and correct is expected"

-- the number, or the numbers, of a column
abbrev pub number_words : Column → List ℕ
number_words Siblings = codes "numbers of 1 to 9 digits with spaces between them are expected"
number_words Choices = codes "numbers of 1 to 9 digits with spaces between them are expected"
number_words Continuing = codes "one number of 1 to 9 digits, or nothing, is expected"
number_words _ = codes "a number of 1 to 9 digits is expected"

-- the range of a column's numbers
abbrev pub range_words : Column → List ℕ
range_words School = codes "a number from 1 to 99999 is expected"
range_words Zone = codes "a number from 0 to 9999 is expected"
range_words Seats = codes "a number from 0 to 10000 is expected"
range_words Student = codes "a number from 1 to 999999999 is expected"
range_words Siblings = codes "numbers from 1 to 99999 are expected"
range_words Continuing = codes "a number from 1 to 99999 is expected"
range_words Choices = codes "numbers from 1 to 99999 are expected"
range_words Stamp = codes "a number from 0 to 999999999 is expected"
range_words Word = codes "a word is expected"
range_words Count = codes "a number from 1 to 10000 is expected"

-- how long an input may be
abbrev pub limit_words : Source → List ℕ
limit_words Schools = codes "5000 schools and 67108864 bytes at most are expected"
limit_words Roster = codes "200000 students and 67108864 bytes at most are expected"
limit_words Lists = codes "200000 students and 67108864 bytes at most are expected"
limit_words _ = codes "67108864 bytes at most are expected"

-- whose earlier row there is
abbrev pub twice_words : Source → List ℕ
twice_words Schools = codes "an earlier row has this school"
twice_words _ = codes "an earlier row has this student"

-- why the papers refuse a student
abbrev pub refusal_words : Refusal → List ℕ
refusal_words EmptyList = codes "a list of 1 to 20 schools is expected"
refusal_words ListTooLong = codes "a list of at most 20 schools is expected"
refusal_words (UnknownSchool s) = codes "a row with school " ++ decimal s ++ codes " is expected in the schools"
refusal_words (SchoolTwice s) = codes "the list names school " ++ decimal s ++ codes " twice"
refusal_words _ = codes "the papers refuse the student"

-- what is expected, whatever stands in the row
abbrev pub general_words : Source → Cause → List ℕ
general_words source TooLong = limit_words source
general_words source Header = header_words source
general_words source Fields = codes "as many fields as its form has are expected"
general_words source Number = codes "numbers of 1 to 9 digits are expected"
general_words source Range = codes "numbers within their ranges are expected"
general_words source Twice = twice_words source
general_words source NoList = codes "a row without a fault is expected for this student in the lists"
general_words source NotInRoster = codes "a row without a fault is expected for this student in the roster"
general_words source (Refused r) = refusal_words r
general_words source OutOfMemory = codes "more memory is expected"
