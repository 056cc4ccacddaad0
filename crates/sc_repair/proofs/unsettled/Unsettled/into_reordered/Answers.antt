use Rattle.std.proofs.Common.{subst}
use Rattle.sc_papers.specs.Reordering.{IsReordering}
use Rattle.sc_stamps.specs.Verdict.{StampedPapers}
use Rattle.sc_repair.proofs.Reordered.{reordered-in_turn}
use Rattle.sc_repair.proofs.unsettled.Unsettled.into_reordered.Goals as goal

pub returns : goal.returns
returns c =
    subst (λ (whole : StampedPapers). IsReordering c.self.inside.papers whole.papers) c.self.view_is
    (reordered-in_turn c.self.inside.turns c.self.inside.papers c.self.inside.stamps c.self.invariant)
