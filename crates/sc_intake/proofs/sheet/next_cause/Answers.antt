use Rattle.std.proofs.Common.{◌≡◌, ◌+◌, ◌∷◌, [], sym, ap, arith, length}
use Rattle.sc_intake.specs.Checking.{unjudged}
use Rattle.sc_intake.specs.Fault.{fault_at}
use Rattle.sc_intake.specs.Rows.{next_row_at}
use Rattle.sc_intake.proofs.JudgingSteps.{judged-end, judged-step, judged-told}
use Rattle.sc_intake.proofs.sheet.next_cause.Goals as goal

pub rows-preserved : goal.rows-preserved
rows-preserved g c =
    let next : c.rows.records.left ≡ c.read.new.self.current ∷ c.read.new.self.left = rw c.if-branch.true at c.in_ok-read.ensures in
    let size = ap length next in
    let counted = c.rows.invariant.count in
    record {
      judged = judged-step (c.rows.row + 1) g.R.Numbered.source (next_row_at g.R.Numbered.MOST g.R.Numbered.number g.R.Numbered.reading c.args.width) _ (unjudged c.rows.rows.items)
          (unjudged c.judge_row.new.rows.items) c.rows.records.left c.read.new.self.left c.read.new.self.current
          c.rows.invariant.judged next (rw c.in_default.is at c.in_ok-cause.ensures.judged);
      rows = c.in_ok-cause.ensures.rows;
      seen = c.in_ok-cause.ensures.seen;
      count = omega arith;
    }

pub returns-in-Some-clause-next : goal.returns-in-Some-clause-next
returns-in-Some-clause-next g c =
    judged-told (c.rows.row + 1) g.R.Numbered.source (next_row_at g.R.Numbered.MOST g.R.Numbered.number g.R.Numbered.reading c.args.width) _ c.rows.rows.items c.judge_row.new.rows.items
    (fault_at g.R.Numbered.source (c.rows.row + 1) c.in-Some.cause ∷ []) c.rows.records.left c.read.new.self.left c.read.new.self.current
    c.rows.invariant.judged (rw c.if-branch.true at c.in_ok-read.ensures) (rw c.in-Some.is at c.in_ok-cause.ensures.judged)

pub returns-clause-next : goal.returns-clause-next
returns-clause-next g c =
    sym (judged-end (c.rows.row + 1) g.R.Numbered.source (next_row_at g.R.Numbered.MOST g.R.Numbered.number g.R.Numbered.reading c.args.width) _ (unjudged c.rows.rows.items) c.rows.records.left
    c.rows.invariant.judged (rw c.if-branch.false at c.in_ok-read.ensures))
