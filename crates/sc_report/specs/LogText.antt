-- A rejection log as text.
use Rattle.std.specs.Prelude.{ℕ, List, ◌++◌, codes, flat_map}
use Rattle.std.specs.Fmt.{decimal}
use Rattle.sc_papers.specs.declared.rejection.Rejection.{Rejection}

-- the line of an entry: the student, a comma, the school, and a newline
abbrev pub log_line : Rejection → List ℕ
log_line entry = decimal entry.student ++ codes "," ++ decimal entry.school ++ codes "\n"

-- the log text: the line of each entry, and no header
abbrev pub log_text : List Rejection → List ℕ
log_text log = flat_map log_line log
