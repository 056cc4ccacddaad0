-- How the lines about a school end, each ending written once.
use Rattle.std.specs.Prelude.{◌≡◌, ℕ, ◌%◌, nat_lt, List, ◌++◌, codes, slice_get, take, if◌then◌else◌}
use Rattle.std.specs.Option.{IsSomeAnd}
use Rattle.std.specs.Fmt.{decimal}
use Rattle.std.specs.List.{AllZip}
use Rattle.sc_papers.specs.declared.key.Key.{Key}
use Rattle.sc_reasons.specs.Reason.{reason_by}
use Rattle.sc_reasons.specs.declared.cutoff.CutoffRow.{CutoffRow}
use Rattle.sc_reasons.specs.declared.reason.Reason.{Reason}
use Rattle.sc_report.specs.ReasonText.{reason_word}
use Rattle.sc_report.specs.declared.endings.Endings.{Endings}
use Rattle.sc_report.specs.declared.endings.SchoolEndings.{SchoolEndings}
use Rattle.sc_report.specs.declared.piece.Piece.{Piece}

-- the text of a piece
abbrev pub piece_text : Piece → List ℕ
piece_text piece = take (piece.count % 16) piece.bytes

-- how the line of a student who has a school ends, after the student's number and a comma
abbrev pub place_ending : ℕ → List ℕ
place_ending s = decimal s ++ codes "\n"

-- how the line of a school and a reason ends, after the student's number and a comma
abbrev pub line_ending : ℕ → Reason → List ℕ
line_ending s reason = decimal s ++ codes "," ++ reason_word reason ++ codes "\n"

-- the ending at a place among those of who misses a school
abbrev pub EndsAt : SchoolEndings → ℕ → List ℕ → Type 0
EndsAt school k text = IsSomeAnd (slice_get school.blocks k) (λ block. IsSomeAnd (slice_get school.counts k) (λ count. take (count % 16) block ≡ text))

-- these are the endings of the lines about the school of a row: of who has it, and of who misses it, by their key there
pub record HasEndings (row : CutoffRow) (school : SchoolEndings) : Type 0 where
  pub place : piece_text school.place ≡ place_ending row.school
  pub missed : (key : Key) → EndsAt school (if nat_lt school.last key.class then 1 else 0) (line_ending row.school (reason_by row.cutoff key))

-- and of each of the rows
abbrev pub HaveEndings : List CutoffRow → Endings → Type 0
HaveEndings rows endings = AllZip HasEndings rows endings.schools.items
