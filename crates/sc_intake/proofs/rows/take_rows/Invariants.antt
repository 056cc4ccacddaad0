use Rattle.std.proofs.Common.{◌≡◌, ◌-◌, [], length}
use Rattle.sc_intake.specs.File.{rows_after}
use Rattle.sc_intake.specs.Rows.{next_row, AreRows}
use Rattle.sc_intake.specs.Seen.{AreNumbers}
use Rattle.sc_intake.proofs.rows.take_rows.Given as goal

abbrev pub invariant-rows : goal.invariant-rows
invariant-rows g l = record {
  gives : rows_after 2 g.R.Numbered.source (next_row g.R.Numbered.MOST g.R.Numbered.number g.R.Numbered.reading l.width) [] l.initial.records.left ≡ rows_after 2 g.R.Numbered.source (next_row g.R.Numbered.MOST g.R.Numbered.number g.R.Numbered.reading l.width) l.rows.items l.records.left;
  rows : AreRows g.R.Numbered.number g.R.Numbered.MOST l.rows.items;
  seen : AreNumbers g.R.Numbered.number l.rows.items l.seen;
}

abbrev pub decreases-rows : goal.decreases-rows
decreases-rows g l = g.R.Numbered.MOST - length l.rows.items
