-- The line that the program writes on standard error.
use Rattle.std.specs.Prelude.{List, ℕ, [], ◌++◌, codes}
use Rattle.std.specs.Fmt.{decimal}
use Rattle.sc_lottery.specs.Seed.{refusal_text}
use Rattle.sc_steps.specs.Faults.{fault_words}
use Rattle.sc_runs.specs.declared.ending.Ending.{Ending}
use Rattle.sc_runs.specs.declared.ending.Ending.TheVariants.{Done, NotCertified, Faulty, Torn, BadSeed, BadBundle, BadStudent, BadTable, TableBesideLog, UnknownStudent, BadSchool, UnknownSchool, BadSince, NoLine, AlreadyThere, Unwritten, Fault}
use Rattle.sc_runs.specs.declared.ending.PapersFile.{PapersFile}
use Rattle.sc_runs.specs.declared.ending.PapersFile.TheVariants.{Schools, Roster, Lists}

-- the name of a file that papers are exported to
abbrev pub file_name : PapersFile → List ℕ
file_name Schools = codes "schools.csv"
file_name Roster = codes "roster.csv"
file_name Lists = codes "lists.csv"

-- which file of papers could not be made or written, and which ones are whole
abbrev pub unwritten_words : PapersFile → List ℕ
unwritten_words Schools = codes "cannot write schools.csv: no file is whole"
unwritten_words Roster = codes "cannot write roster.csv: schools.csv is whole"
unwritten_words Lists = codes "cannot write lists.csv: schools.csv and roster.csv are whole"

-- which file of papers is there already, and which ones were made whole before it
abbrev pub there_words : PapersFile → List ℕ
there_words Schools = codes "cannot write schools.csv: it is there already; no file was made"
there_words Roster = codes "cannot write roster.csv: it is there already; schools.csv is whole"
there_words Lists = codes "cannot write lists.csv: it is there already; schools.csv and roster.csv are whole"

-- an ending in words; done, not certified and found faulty have none
abbrev pub ending_words : Ending → List ℕ
ending_words Done = []
ending_words NotCertified = []
ending_words Faulty = []
ending_words Torn = codes "journal torn"
ending_words (BadSeed error) = codes "seed: " ++ refusal_text error
ending_words BadBundle = codes "bundle"
ending_words BadStudent = codes "student: Number"
ending_words BadTable = codes "table: Name"
ending_words TableBesideLog = codes "table: Log"
ending_words (UnknownStudent student) = codes "explain: UnknownStudent " ++ decimal student
ending_words BadSchool = codes "school: Number"
ending_words (UnknownSchool school) = codes "admissions: UnknownSchool " ++ decimal school
ending_words BadSince = codes "since: Number"
ending_words (NoLine line) = codes "changes: NoLine " ++ decimal line
ending_words (AlreadyThere file) = there_words file
ending_words (Unwritten file) = unwritten_words file
ending_words (Fault fault) = fault_words fault

-- a line: the program's name, a colon, the words, and a line end
abbrev pub line_with : List ℕ → List ℕ
line_with words = codes "clearinghouse: " ++ words ++ codes "\n"

-- the line of an ending, which has none where all was done, the log is not certified or files were found faulty
abbrev pub fault_line : Ending → List ℕ
fault_line Done = []
fault_line NotCertified = []
fault_line Faulty = []
fault_line ending = line_with (ending_words ending)
