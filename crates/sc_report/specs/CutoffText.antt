-- The cutoffs as text.
use Rattle.std.specs.Prelude.{ℕ, List, ◌++◌, codes, flat_map}
use Rattle.std.specs.Fmt.{decimal}
use Rattle.std.specs.Int.{w64, to_be_bytes}
use Rattle.hex.specs.Hex.{encode_lower}
use Rattle.sc_papers.specs.Market.{Market}
use Rattle.sc_papers.specs.Matching.{Matching}
use Rattle.sc_papers.specs.declared.key.Key.{Key}
use Rattle.sc_reasons.specs.Cutoff.{cutoff_rows}
use Rattle.sc_reasons.specs.declared.cutoff.Cutoff.{Cutoff}
use Rattle.sc_reasons.specs.declared.cutoff.Cutoff.TheVariants.{Closed, Free, Full}
use Rattle.sc_reasons.specs.declared.cutoff.CutoffRow.{CutoffRow}

-- a draw: its eight bytes, the greatest first, in two lower-case hexadecimal digits each
unfoldable pub draw_text : ℕ → List ℕ
draw_text n = encode_lower (to_be_bytes w64 n)

-- a key: its class, its draw and its student
abbrev pub key_text : Key → List ℕ
key_text key = decimal key.class ++ codes "," ++ draw_text key.draw ++ codes "," ++ decimal key.student

-- a cutoff: its key, or what it is, and dashes
abbrev pub cutoff_field : Cutoff → List ℕ
cutoff_field Closed = codes "closed,-,-"
cutoff_field Free = codes "free,-,-"
cutoff_field (Full key) = key_text key

-- the line of a school: its number, its seats, how many have it, and its cutoff
abbrev pub cutoff_line : CutoffRow → List ℕ
cutoff_line row = decimal row.school ++ codes "," ++ decimal row.seats ++ codes "," ++ decimal row.held ++ codes "," ++ cutoff_field row.cutoff ++ codes "\n"

-- the header, and the line of each row
abbrev pub cutoff_lines : List CutoffRow → List ℕ
cutoff_lines rows = codes "school,seats,held,class,draw,student\n" ++ flat_map cutoff_line rows

-- the cutoff text of papers and a matching
abbrev pub cutoff_text : Market → Matching → List ℕ
cutoff_text m a = cutoff_lines (cutoff_rows m a)
