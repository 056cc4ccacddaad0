-- The reasons as text.
use Rattle.std.specs.Prelude.{ℕ, List, ◌++◌, codes, flat_map}
use Rattle.std.specs.Fmt.{decimal}
use Rattle.sc_papers.specs.Market.{Market}
use Rattle.sc_papers.specs.Matching.{Matching}
use Rattle.sc_reasons.specs.Reason.{reason_rows}
use Rattle.sc_reasons.specs.declared.reason.Reason.{Reason}
use Rattle.sc_reasons.specs.declared.reason.Reason.TheVariants.{Seats, Class, Lottery}
use Rattle.sc_reasons.specs.declared.reason.ReasonRow.{ReasonRow}

-- a reason's word
abbrev pub reason_word : Reason → List ℕ
reason_word Seats = codes "seats"
reason_word Class = codes "class"
reason_word Lottery = codes "lottery"

-- the line of a student and a school: their numbers and the reason
abbrev pub reason_line : ReasonRow → List ℕ
reason_line row = decimal row.student ++ codes "," ++ decimal row.school ++ codes "," ++ reason_word row.reason ++ codes "\n"

-- the header, and the line of each row
abbrev pub reason_lines : List ReasonRow → List ℕ
reason_lines rows = codes "student,school,reason\n" ++ flat_map reason_line rows

-- the reason text of papers and a matching
abbrev pub reason_text : Market → Matching → List ℕ
reason_text m a = reason_lines (reason_rows m a)
