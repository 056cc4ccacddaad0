use Rattle.sc_report.proofs.EndingLemmas.{endings-more}
use Rattle.sc_report.proofs.endings.Endings.new.Goals as goal

pub loop-row-preserved : goal.loop-row-preserved
loop-row-preserved c =
    endings-more c.args.rows.now c.loop-row.row-index c.row-item.result c.loop-row.schools.items c.push.new.self.items c.in_ok-endings_of.field-0
    c.loop-row.invariant c.in_ok-endings_of.ensures c.loop-row-test.true c.row-item.is c.in_ok-push.ensures.items
