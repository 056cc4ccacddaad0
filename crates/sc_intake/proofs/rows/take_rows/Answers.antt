use Rattle.std.proofs.Common.{◌≡◌, ◌+◌, [], length, refl, rules}
use Rattle.sc_intake.specs.Rows.{next_row}
use Rattle.sc_intake.proofs.RowLemmas.{AreRows-none, row-end, row-fault, row-step}
use Rattle.sc_intake.proofs.rows.take_rows.Goals as goal

pub rows-init : goal.rows-init
rows-init g c =
    let none : c.new-rows.result.items ≡ [] = search rules in
    record {
      gives = rw none refl;
      rows = rw none (AreRows-none g.R.Numbered.number g.R.Numbered.MOST);
      seen = λ n. rw none (c.new-seen.ensures n);
    }

pub returns-in-Err-clause-gives : goal.returns-in-Err-clause-gives
returns-in-Err-clause-gives g c =
    let rows = c.rows.rows.items in
    let next = rw c.if-branch.true at c.in_ok-advance.ensures in
    let size : c.len.result + 2 ≡ length rows + 2 = search rules in
    row-fault 2 g.R.Numbered.source (next_row g.R.Numbered.MOST g.R.Numbered.number g.R.Numbered.reading c.args.width) _ rows c.rows.records.left c.advance.new.self.left c.advance.new.self.current c.in-Err.cause c.at.result
    c.rows.invariant.gives next (rw size at c.in-Err.ensures.gives)
    (rw (c.at.ensures, c.source-in-Err.ensures, size) refl)

pub rows-preserved : goal.rows-preserved
rows-preserved g c =
    let rows = c.rows.rows.items in
    let next = rw c.if-branch.true at c.in_ok-advance.ensures in
    let size : c.len.result + 2 ≡ length rows + 2 = search rules in
    record {
      gives = row-step 2 g.R.Numbered.source (next_row g.R.Numbered.MOST g.R.Numbered.number g.R.Numbered.reading c.args.width) _ rows c.add_row.new.rows.items c.rows.records.left c.advance.new.self.left c.advance.new.self.current
          c.rows.invariant.gives next (rw size at c.in_default.ensures.gives);
      rows = c.in_default.ensures.rows;
      seen = c.in_default.ensures.seen;
    }

pub returns-clause-gives : goal.returns-clause-gives
returns-clause-gives g c =
    let last = rw c.if-branch.false at c.in_ok-advance.ensures in
    row-end 2 g.R.Numbered.source (next_row g.R.Numbered.MOST g.R.Numbered.number g.R.Numbered.reading c.args.width) _ c.rows.rows.items c.rows.records.left c.rows.invariant.gives last
