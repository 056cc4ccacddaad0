use Rattle.std.proofs.Common.{◌≡◌, ◌++◌, take}
use Rattle.std.specs.Prelude.{flat_map}
use Rattle.sc_report.specs.CutoffText.{cutoff_line}
use Rattle.sc_report.proofs.cutoff_lines.push_cutoffs.Given as goal

abbrev pub invariant-loop-row : goal.invariant-loop-row
invariant-loop-row l = l.text.items ≡ l.initial.text.items ++ flat_map cutoff_line (take l.row-index l.rows)
