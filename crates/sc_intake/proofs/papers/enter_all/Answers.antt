use Rattle.std.proofs.Common.{arith}
use Rattle.sc_intake.proofs.PaperLemmas.{enter-end, enter-fault, enter-step}
use Rattle.sc_intake.proofs.papers.enter_all.Goals as goal

pub returns-in-Err : goal.returns-in-Err
returns-in-Err c =
    enter-fault c.args.lists.now _ c.loop-row.papers c.args.roster.now c.loop-row.row-index c.row-item.result c.in-Err.cause c.at.result
    c.loop-row.invariant (omega arith) c.row-item.is (rw c.find_list-list.ensures at c.in-Err.ensures.entered) c.at.ensures

pub loop-row-preserved : goal.loop-row-preserved
loop-row-preserved c =
    enter-step c.args.lists.now _ c.loop-row.papers c.enter_copied.new.papers c.args.roster.now c.loop-row.row-index c.row-item.result
    c.loop-row.invariant (omega arith) c.row-item.is (rw c.find_list-list.ensures at c.in_default.ensures.entered)

pub returns : goal.returns
returns c = enter-end c.args.lists.now _ c.loop-row.papers c.args.roster.now c.loop-row.row-index c.loop-row.invariant (omega arith)
