-- What a text without a quote is cut into: each line that has a byte is a record, whose fields stand between commas.
-- Contracts of readers see the records of `csv`: this is what their proofs go by, and how a fault's text finds a field.
use Rattle.std.specs.Prelude.{ℕ, ◌==◌, Bool, true, false, ◌||◌, List, [], ◌∷◌, ◌++◌, map, if◌then◌else◌}
use Rattle.std.specs.List.{list_any}
use Rattle.csv.specs.Reading.{default_config, records}
use Rattle.memchr.specs.Find.{is_byte}

-- LF and CR end a line
abbrev pub ends_line : ℕ → Bool
ends_line c = c == 10 || c == 13

-- a line, where it has a byte
abbrev pub line_of : List ℕ → List (List ℕ)
line_of [] = []
line_of (c ∷ cs) = (c ∷ cs) ∷ []

-- the lines of a text, after the bytes of a line that has begun
unfoldable pub lines_from : List ℕ → List ℕ → List (List ℕ)
lines_from line [] = line_of line
lines_from line (c ∷ cs) = if ends_line c then line_of line ++ lines_from [] cs else lines_from (line ++ c ∷ []) cs

-- the fields of a line, after the bytes of a field that has begun
unfoldable pub fields_from : List ℕ → List ℕ → List (List ℕ)
fields_from field [] = field ∷ []
fields_from field (c ∷ cs) = if c == 44 then field ∷ fields_from [] cs else fields_from (field ++ c ∷ []) cs

-- the records of a text: the fields of each of its lines
unfoldable pub plain_records : List ℕ → List (List (List ℕ))
plain_records text = map (fields_from []) (lines_from [] text)

-- the records of a text: each of its lines is one, or it is cut as `csv` cuts it
abbrev pub cut : Bool → List ℕ → List (List (List ℕ))
cut true text = plain_records text
cut false text = records default_config text

-- a byte of a text is a quote
abbrev pub has_quote : List ℕ → Bool
has_quote text = list_any (is_byte 34) text

-- the bytes of a text before its first line end
unfoldable pub first_line : List ℕ → List ℕ
first_line [] = []
first_line (c ∷ cs) = if ends_line c then [] else c ∷ first_line cs

-- the bytes of a text after its first line end
unfoldable pub after_line : List ℕ → List ℕ
after_line [] = []
after_line (c ∷ cs) = if ends_line c then cs else after_line cs

-- a comma and a line end end a field
abbrev pub ends_field : ℕ → Bool
ends_field c = c == 44 || ends_line c

-- a quote, a comma and a line end are no bytes of a field that stands as it is
abbrev pub is_mark : ℕ → Bool
is_mark c = c == 34 || ends_field c
