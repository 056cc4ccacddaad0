-- The line of each school so far was added.
use Rattle.std.proofs.Common.{◌≡◌, ◌++◌, take}
use Rattle.std.specs.Prelude.{flat_map}
use Rattle.sc_reasons.specs.declared.cutoff.CutoffRow.{CutoffRow}
use Rattle.sc_notices.specs.Summary.{listed}
use Rattle.sc_notices.specs.SummaryText.{row_line}
use Rattle.sc_notices.proofs.summary.push_schools.Given as goal

abbrev pub invariant-loop-row : goal.invariant-loop-row
invariant-loop-row l =
    l.text.items ≡ l.initial.text.items ++ flat_map (λ (row : CutoffRow). row_line row.school row.seats row.held (listed l.clearing.standing.papers row.school)) (take l.row-index l.row-items)
