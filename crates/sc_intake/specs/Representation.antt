-- How the readers of records keep where they stand in a text. Other contracts see the cursor alone.
use Rattle.std.specs.Prelude.{◌≡◌, ℕ, true, false, Box, List, [], Option, None, Some}
use Rattle.std.specs.Global.{Global}
use Rattle.std.specs.Borrow.{Bor}
use Rattle.csv.specs.Reading.{default_config, reader_state, records, strip_bom}
use Rattle.csv.specs.Records.{fields_of}
use Rattle.csv.specs.declared.reader.Reader.{Reader}
use Rattle.sc_intake.specs.Cursor.{Cursor}
use Rattle.sc_intake.specs.Plain.{fields_from, plain_records}
use Rattle.sc_intake.specs.Reading.{IsReading, records_of, unread}
use Rattle.sc_intake.specs.declared.line_records.LineRecords.TheInside as lines
use Rattle.sc_intake.specs.declared.plain_records.PlainRecords.TheInside as plain
use Rattle.sc_intake.specs.declared.quoted_records.QuotedRecords.TheInside as quoted

-- the records that are left of a text to a reader of it, which is made by the first read
abbrev pub left_of : List ℕ → Option (Box (Reader (Bor (List ℕ))) Global) → List (List (List ℕ))
left_of text None = records default_config (strip_bom text)
left_of text (Some reader) = records_of (reader_state reader.value) (unread reader.value)

-- a reader that is there reads on
abbrev pub ReadsOn : Option (Box (Reader (Bor (List ℕ))) Global) → Type 0
ReadsOn None = Unit {0}
ReadsOn (Some reader) = IsReading reader.value

-- the cursor of `csv`'s reader: the record read last, and the records that are left
abbrev pub quoted_cursor_of : quoted.Inside → Cursor
quoted_cursor_of i = record {
  current = fields_of i.fields;
  left = elim i.stopped [ true ↦ [] | false ↦ left_of i.text.now i.reader ];
  by_lines = true;
}

-- what is true of its fields: a reader that has not stopped reads on
abbrev pub IsSound : quoted.Inside → Type 0
IsSound i = i.stopped ≡ false → ReadsOn i.reader

-- the cursor in a text without a quote
abbrev pub plain_cursor_of : plain.Inside → Cursor
plain_cursor_of i = record { current = fields_from [] i.line.now; left = plain_records i.rest.now; by_lines = true }

-- the cursor in a text of which nobody has looked yet whether it has a quote
abbrev pub line_cursor_of : lines.Inside → Cursor
line_cursor_of i = record { current = fields_from [] i.line.now; left = records default_config i.rest.now; by_lines = false }
