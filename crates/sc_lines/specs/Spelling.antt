-- What a text is the spelling of.
use Rattle.std.specs.Prelude.{◌≡◌, ⊤, ℕ, List, Option, None, Some}
use Rattle.std.specs.Int.{IsInRange}
use Rattle.std.specs.List.{All}
use Rattle.sc_lottery.specs.declared.number.TheConstants.StudentNumber.{GREATEST as greatest_student}
use Rattle.sc_papers.specs.declared.count.TheConstants.Count.{GREATEST as greatest_count}
use Rattle.sc_papers.specs.declared.school_no.TheConstants.SchoolNo.{GREATEST as greatest_school}
use Rattle.sc_papers.specs.declared.zone.TheConstants.Zone.{GREATEST as greatest_zone}
use Rattle.sc_papers.specs.declared.amendment.Amendment.{Amendment}
use Rattle.sc_papers.specs.declared.amendment.Amendment.TheVariants.{Enter, Withdraw, Rerank, Add, Close, Correct}
use Rattle.sc_lines.specs.Line.{line_text}
use Rattle.sc_lines.specs.declared.line_no.TheConstants.LineNo.{GREATEST as greatest_line}
use Rattle.sc_lines.specs.declared.reading.JournalLine.{JournalLine}

-- a student's number
abbrev pub IsStudent : ℕ → Type 0
IsStudent i = IsInRange 1 greatest_student i

-- a zone, 0 where there is none
abbrev pub IsZone : ℕ → Type 0
IsZone zone = IsInRange 0 greatest_zone zone

-- a school's number
abbrev pub IsSchool : ℕ → Type 0
IsSchool s = IsInRange 1 greatest_school s

-- a school's number, if there is one
abbrev pub IsSchoolOrNone : Option ℕ → Type 0
IsSchoolOrNone None = ⊤
IsSchoolOrNone (Some s) = IsSchool s

-- how many seats are added or closed
abbrev pub IsCount : ℕ → Type 0
IsCount count = IsInRange 1 greatest_count count

-- the numbers of an amendment are in their ranges, as those of every value of the type are
abbrev pub IsInRanges : Amendment → Type 0
IsInRanges (Enter i zone siblings choices continuing) =
    IsStudent i × IsZone zone × All IsSchool siblings × All IsSchool choices × IsSchoolOrNone continuing
IsInRanges (Withdraw i) = IsStudent i
IsInRanges (Rerank i choices) = IsStudent i × All IsSchool choices
IsInRanges (Add s count) = IsSchool s × IsCount count
IsInRanges (Close s count) = IsSchool s × IsCount count
IsInRanges (Correct i zone siblings continuing) = IsStudent i × IsZone zone × All IsSchool siblings × IsSchoolOrNone continuing

-- a text is the line, without its newline, of an amendment under a number
pub record IsLineOf (text : List ℕ) (number : ℕ) (amendment : Amendment) : Type 0 where
  pub number_in_range : IsInRange 1 greatest_line number
  pub amendment_in_ranges : IsInRanges amendment
  pub spelled : text ≡ line_text number amendment

-- a text is the line that was read, or is no line
abbrev pub ReadsAs : List ℕ → Option JournalLine → Type 0
ReadsAs text None = (number : ℕ) (amendment : Amendment) → IsLineOf text number amendment → ⊥
ReadsAs text (Some line) = IsLineOf text line.number line.amendment
