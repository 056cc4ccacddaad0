use Rattle.std.proofs.Common.{arith}
use Rattle.sc_intake.proofs.Bounded.{length-below_header, length-records_in}
use Rattle.sc_intake.proofs.RowLemmas.{AreRows-none}
use Rattle.sc_intake.proofs.sheet.open_rows.Goals as goal

pub returns-clause-sound : goal.returns-clause-sound
returns-clause-sound g c = record {
  rows = rw c.new.ensures.items (AreRows-none g.R.Numbered.number g.R.Numbered.MOST);
  seen = λ n. rw c.new.ensures.items (c.new-2.ensures n);
  few = omega (
    arith,
    length-below_header g.R.Numbered.source g.R.Row.is_header c.in_ok-records.records.left c.in_ok-width.width c.take_header.new.records.left 67108865
        (length-records_in c.source.result c.args.bytes.now c.in_ok-records.records.left c.in_ok-records.ensures) c.in_ok-width.ensures,
  );
}
