use Rattle.std.proofs.Common.{arith}
use Rattle.sc_intake.proofs.PaperLemmas.{positions-more}
use Rattle.sc_checks.proofs.choices.list_positions.Goals as goal

pub loop-position-preserved : goal.loop-position-preserved
loop-position-preserved c =
    positions-more c.args.lists.now c.loop-position.position c.index-lists-position.result _ _ c.requires.differ (omega arith) c.index-lists-position.is
    c.loop-position.invariant c.in_ok-insert.ensures.updates.0
