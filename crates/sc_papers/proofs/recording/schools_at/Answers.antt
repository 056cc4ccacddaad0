use Rattle.std.proofs.Common.{◌∙◌}
use Rattle.sc_papers.specs.Market.{schools_of}
use Rattle.sc_papers.proofs.Recorded.{schools-more}
use Rattle.sc_papers.proofs.recording.schools_at.Goals as goal

pub loop-position-preserved : goal.loop-position-preserved
loop-position-preserved c =
    c.in_ok-push.ensures.items
    ∙ schools-more (schools_of c.args.papers.now) c.args.positions.now c.loop-position.position-index c.from.result c.in-Some.school 0 c.loop-position.schools.items c.loop-position-test.true
    c.from.ensures c.in-Some.ensures c.loop-position.invariant
