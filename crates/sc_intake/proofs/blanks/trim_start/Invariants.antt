-- The bytes passed are blanks: without them the rest trims as the whole does.
use Rattle.std.proofs.Common.{◌≡◌, drop}
use Rattle.sc_intake.specs.Blanks.{is_blank, trim_start}
use Rattle.sc_intake.proofs.blanks.trim_start.Given as goal

abbrev pub invariant-loop-start : goal.invariant-loop-start
invariant-loop-start l = trim_start (is_blank l.blanks) (drop l.start l.text) ≡ trim_start (is_blank l.blanks) l.text
