-- The refusals' codes, names and numbers.
use Rattle.std.specs.Prelude.{ℕ, List, [], ◌++◌, codes, Option, None, Some}
use Rattle.std.specs.Fmt.{decimal}
use Rattle.sc_papers.specs.declared.amendment.Refusal.{Refusal}
use Rattle.sc_papers.specs.declared.amendment.Refusal.TheVariants.{Shape, UnknownStudent, StudentExists, EmptyList, ListTooLong, UnknownSchool, SchoolTwice, RosterFull, TooManySeats, TooFewSeats, OutOfMemory, Stale, Spent}

-- a refusal's code. Refusals are tested in the order of their codes, but that want of memory comes last
abbrev pub code_of : Refusal → ℕ
code_of Shape = 1
code_of UnknownStudent = 2
code_of StudentExists = 3
code_of EmptyList = 4
code_of ListTooLong = 5
code_of (UnknownSchool s) = 6
code_of (SchoolTwice s) = 7
code_of RosterFull = 8
code_of TooManySeats = 9
code_of TooFewSeats = 10
code_of OutOfMemory = 11
code_of (Stale stamp) = 12
code_of Spent = 13

-- a refusal's name
abbrev pub name_of : Refusal → List ℕ
name_of Shape = codes "Shape"
name_of UnknownStudent = codes "UnknownStudent"
name_of StudentExists = codes "StudentExists"
name_of EmptyList = codes "EmptyList"
name_of ListTooLong = codes "ListTooLong"
name_of (UnknownSchool s) = codes "UnknownSchool"
name_of (SchoolTwice s) = codes "SchoolTwice"
name_of RosterFull = codes "RosterFull"
name_of TooManySeats = codes "TooManySeats"
name_of TooFewSeats = codes "TooFewSeats"
name_of OutOfMemory = codes "OutOfMemory"
name_of (Stale stamp) = codes "Stale"
name_of Spent = codes "Spent"

-- the number that a refusal tells, if it tells one: the school that it names, or the record's stamp
abbrev pub number_of : Refusal → Option ℕ
number_of (UnknownSchool s) = Some s
number_of (SchoolTwice s) = Some s
number_of (Stale stamp) = Some stamp
number_of _ = None

-- a space and the number, or nothing for none
abbrev pub number_words : Option ℕ → List ℕ
number_words None = []
number_words (Some n) = codes " " ++ decimal n

-- a refusal in words: its name, and the number that it tells, if any
abbrev pub refusal_words : Refusal → List ℕ
refusal_words r = name_of r ++ number_words (number_of r)
