-- The rows that are told by their lines are those that are read.
use Rattle.std.proofs.Common.{◌≡◌, ℕ, ◌==◌, Bool, true, false, List, [], ◌∷◌, ◌++◌, map, refl, sym, ap, ◌∙◌, cond}
use Rattle.std.proofs.lemmas.Bool.{or_parts}
use Rattle.std.proofs.lemmas.List.{map-append}
use Rattle.csv.specs.Reading.{default_config, is_bom, records, strip_bom}
use Rattle.sc_intake.specs.Plain.{ends_line, fields_from, line_of, lines_from, plain_records}
use Rattle.sc_intake.proofs.PlainCutting.{records-unquoted}
use Rattle.sc_checks.specs.Lines.{has_quote, line_after, row_of, rows_from, rows_of, Row}
use Rattle.sc_checks.proofs.Bytes.{byte-there}

bytes_of : List Row → List (List ℕ)
bytes_of rows = map (λ row. row.bytes) rows

row-bytes : (line : ℕ) (begun : List ℕ) → bytes_of (row_of line begun) ≡ line_of begun
unfolding bytes_of
row-bytes line [] = refl
row-bytes line (c ∷ cs) = refl

bytes-append : (xs ys : List Row) → bytes_of (xs ++ ys) ≡ bytes_of xs ++ bytes_of ys
unfolding bytes_of
bytes-append xs ys = map-append (λ (row : Row). row.bytes) xs ys

-- rows are the lines that have a byte
lines-same : (line : ℕ) (begun text : List ℕ) → bytes_of (rows_from line begun text) ≡ lines_from begun text
unfolding rows_from lines_from
lines-same line begun [] = row-bytes line begun
lines-same line begun (c ∷ cs) = by (ends_line c) (lines-same (line_after line (c ∷ cs)) [] cs) (lines-same line (begun ++ c ∷ []) cs)
  where
    by : (b : Bool) → bytes_of (rows_from (line_after line (c ∷ cs)) [] cs) ≡ lines_from [] cs → bytes_of (rows_from line (begun ++ c ∷ []) cs) ≡ lines_from (begun ++ c ∷ []) cs
        → bytes_of (cond b (row_of line begun ++ rows_from (line_after line (c ∷ cs)) [] cs) (rows_from line (begun ++ c ∷ []) cs))
        ≡ cond b (line_of begun ++ lines_from [] cs) (lines_from (begun ++ c ∷ []) cs)
    by true after more =
        bytes-append (row_of line begun) (rows_from (line_after line (c ∷ cs)) [] cs)
        ∙ ap (λ (rows : List (List ℕ)). rows ++ bytes_of (rows_from (line_after line (c ∷ cs)) [] cs)) (row-bytes line begun)
        ∙ ap (λ (rows : List (List ℕ)). line_of begun ++ rows) after
    by false after more = more

fields-same : (rows : List Row) → map (λ row. fields_from [] row.bytes) rows ≡ map (fields_from []) (bytes_of rows)
unfolding bytes_of
fields-same [] = refl
fields-same (row ∷ rows) = ap (λ (rest : List (List (List ℕ))). fields_from [] row.bytes ∷ rest) (fields-same rows)

plain-rows : (text : List ℕ) → map (λ row. fields_from [] row.bytes) (rows_from 1 [] text) ≡ plain_records text
unfolding plain_records
plain-rows text = fields-same (rows_from 1 [] text) ∙ ap (map (fields_from [])) (lines-same 1 [] text)

-- a text without a byte order mark has no quote where the whole has none
unmarked-plain : (text : List ℕ) → has_quote text ≡ false → has_quote (strip_bom text) ≡ false
unfolding strip_bom
unmarked-plain [] plain = plain
unmarked-plain (a ∷ []) plain = plain
unmarked-plain (a ∷ b ∷ []) plain = plain
unmarked-plain (a ∷ b ∷ c ∷ rest) plain = by (is_bom a b c)
  where
    by : (marked : Bool) → has_quote (cond marked rest (a ∷ b ∷ c ∷ rest)) ≡ false
    by true = (or_parts (c == 34) (has_quote rest) (or_parts (b == 34) (has_quote (c ∷ rest)) (or_parts (a == 34) (has_quote (b ∷ c ∷ rest)) plain).1).1).1
    by false = plain

plain-read : (text : List ℕ) → has_quote text ≡ false → records default_config text ≡ plain_records text
plain-read text plain = records-unquoted text (λ k low within is. cc (byte-there 34 text k within is, plain))

pub rows-read : (text : List ℕ) → has_quote text ≡ false → records default_config (strip_bom text) ≡ map (λ row. fields_from [] row.bytes) (rows_of text)
rows-read text plain = rw plain (plain-read (strip_bom text) (unmarked-plain text plain) ∙ sym (plain-rows (strip_bom text)))
