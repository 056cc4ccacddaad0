-- Which of the three readers of records a text has. Other contracts see the cursor alone.
use Rattle.std.specs.Prelude.{true, false}
use Rattle.sc_intake.specs.Cursor.{Cursor}
use Rattle.sc_intake.specs.declared.records.Cutter.{Cutter}
use Rattle.sc_intake.specs.declared.records.Cutter.TheVariants.{Lines, Plain, Quoted}

-- where the reader stands
abbrev pub cursor_of : Cutter → Cursor
cursor_of (Lines records) = record records { by_lines = false }
cursor_of (Plain records) = record records { by_lines = true }
cursor_of (Quoted records) = record records { by_lines = true }
