-- The bytes passed end lines: without them the rest is cut as the whole is.
use Rattle.std.proofs.Common.{◌≡◌, Bool, drop}
use Rattle.sc_intake.specs.Plain.{cut}
use Rattle.sc_intake.proofs.plain_records.line_ends_len.Given as goal

abbrev pub invariant-loop-start : goal.invariant-loop-start
invariant-loop-start l = (by_lines : Bool) → cut by_lines (drop l.start l.text) ≡ cut by_lines l.text
