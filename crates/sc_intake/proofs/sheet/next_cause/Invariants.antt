use Rattle.std.proofs.Common.{◌≡◌, ◌+◌, length}
use Rattle.sc_intake.specs.Checking.{judged_from, unjudged}
use Rattle.sc_intake.specs.Rows.{next_row_at, AreRows}
use Rattle.sc_intake.specs.Seen.{AreNumbers}
use Rattle.sc_intake.proofs.sheet.next_cause.Given as goal

abbrev pub invariant-rows : goal.invariant-rows
invariant-rows g l = record {
  judged : judged_from (l.initial.row + 1) g.R.Numbered.source (next_row_at g.R.Numbered.MOST g.R.Numbered.number g.R.Numbered.reading l.width) (unjudged l.initial.rows.items) l.initial.records.left
      ≡ judged_from (l.row + 1) g.R.Numbered.source (next_row_at g.R.Numbered.MOST g.R.Numbered.number g.R.Numbered.reading l.width) (unjudged l.rows.items) l.records.left;
  rows : AreRows g.R.Numbered.number g.R.Numbered.MOST l.rows.items;
  seen : AreNumbers g.R.Numbered.number l.rows.items l.seen;
  count : l.row + length l.records.left ≡ l.initial.row + length l.initial.records.left;
}

abbrev pub decreases-rows : goal.decreases-rows
decreases-rows g l = length l.records.left
