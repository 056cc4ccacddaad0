-- The lines of a text as an editor counts them, and the rows among them.
use Rattle.std.specs.Prelude.{ℕ, ◌+◌, ◌-◌, ◌==◌, Bool, ◌&&◌, List, [], ◌∷◌, ◌++◌, if◌then◌else◌, slice_get, Option, None}
use Rattle.std.specs.List.{list_any}
use Rattle.csv.specs.Reading.{strip_bom}
use Rattle.sc_intake.specs.Plain.{ends_line}

-- a row: a line that has a byte, and its number as an editor counts it
pub record Row : Type 0 where
  pub line : ℕ
  pub bytes : List ℕ

-- a line as a row, where it has a byte
abbrev pub row_of : ℕ → List ℕ → List Row
row_of line [] = []
row_of line (c ∷ cs) = record { line = line; bytes = c ∷ cs } ∷ []

-- the number of the line after this line end: LF, CR, and CR LF each end one line, so that after CR the same line goes on
-- to its LF
abbrev pub line_after : ℕ → List ℕ → ℕ
line_after line (a ∷ b ∷ rest) = if a == 13 && b == 10 then line else line + 1
line_after line _ = line + 1

-- the rows of a text that begins in this line, after the bytes of a line that has begun
unfoldable pub rows_from : ℕ → List ℕ → List ℕ → List Row
rows_from line begun [] = row_of line begun
rows_from line begun (c ∷ cs) =
    if ends_line c then row_of line begun ++ rows_from (line_after line (c ∷ cs)) [] cs else rows_from line (begun ++ c ∷ []) cs

-- the number of the line after a text's first one
unfoldable pub next_line : ℕ → List ℕ → ℕ
next_line line [] = line
next_line line (c ∷ cs) = if ends_line c then line_after line (c ∷ cs) else next_line line cs

-- a text has a quote, so that its rows are not its lines
abbrev pub has_quote : List ℕ → Bool
has_quote text = list_any (λ c. c == 34) text

-- the part of a text whose rows are told by their lines: all but a byte order mark, and nothing where there is a quote
abbrev pub told_part : List ℕ → List ℕ
told_part text = if has_quote text then [] else strip_bom text

-- the rows of a text that are told by their lines
abbrev pub rows_of : List ℕ → List Row
rows_of text = rows_from 1 [] (told_part text)

-- the row of this number, counted from 1
abbrev pub numbered : List Row → ℕ → Option Row
numbered rows number = if number == 0 then None else slice_get rows (number - 1)

-- the row of this number of a text
abbrev pub row_at : List ℕ → ℕ → Option Row
row_at text number = numbered (rows_of text) number
