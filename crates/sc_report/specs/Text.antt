-- The texts that people read.
use Rattle.std.specs.Prelude.{◌≡◌, ℕ, List, ◌++◌, codes, flat_map, Option, None, Some}
use Rattle.std.specs.Fmt.{decimal}
use Rattle.sc_papers.specs.Market.{Market, students_of}
use Rattle.sc_papers.specs.Matching.{Matching}
use Rattle.sc_reasons.specs.Rising.{rising}
use Rattle.sc_report.specs.CutoffText.{cutoff_text}
use Rattle.sc_report.specs.ReasonText.{reason_text}

-- a school's number, or a dash for none
abbrev pub place_text : Option ℕ → List ℕ
place_text None = codes "-"
place_text (Some s) = decimal s

-- the line of a student: the student's number, a comma, what the student has, and a newline
abbrev pub assignment_line : Matching → ℕ → List ℕ
assignment_line a i = decimal i ++ codes "," ++ place_text (a i) ++ codes "\n"

-- the header, and the line of each student
abbrev pub assignment_lines : Matching → List ℕ → List ℕ
assignment_lines a students = codes "student,school\n" ++ flat_map (assignment_line a) students

-- the assignment text of papers and a matching: the students by rising number
abbrev pub assignment_text : Market → Matching → List ℕ
assignment_text m a = assignment_lines a (rising (students_of m))

-- the report text: the assignment text, the cutoff text and the reason text
unfoldable pub report_text : Market → Matching → List ℕ
report_text m a = assignment_text m a ++ (cutoff_text m a ++ reason_text m a)

-- the text is the report text of papers and a matching
abbrev pub IsReportText : Market → Matching → List ℕ → Type 0
IsReportText m a text = text ≡ report_text m a
