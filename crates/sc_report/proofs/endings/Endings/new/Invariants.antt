-- The endings so far are those of the first rows.
use Rattle.std.proofs.Common.{take}
use Rattle.std.specs.List.{AllZip}
use Rattle.sc_report.specs.Endings.{HasEndings}
use Rattle.sc_report.proofs.endings.Endings.new.Given as goal

abbrev pub invariant-loop-row : goal.invariant-loop-row
invariant-loop-row l = AllZip HasEndings (take l.row-index l.rows) l.schools.items
