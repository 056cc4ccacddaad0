use Rattle.std.proofs.Common.{take}
use Rattle.sc_intake.specs.Seen.{AreNumbers}
use Rattle.sc_intake.proofs.rows.numbers_of.Given as goal

abbrev pub invariant-loop-row : goal.invariant-loop-row
invariant-loop-row g l = AreNumbers g.R.Numbered.number (take l.row-index l.rows) l.numbers
