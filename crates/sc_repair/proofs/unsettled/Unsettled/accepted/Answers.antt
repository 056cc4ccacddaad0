use Rattle.std.proofs.Common.{subst}
use Rattle.sc_stamps.specs.Stamps.{IsInStep}
use Rattle.sc_stamps.specs.Verdict.{StampedPapers}
use Rattle.sc_repair.proofs.AmendedInTurn.{step-in_turn}
use Rattle.sc_repair.proofs.unsettled.Unsettled.accepted.Goals as goal

pub returns-clause-in_step : goal.returns-clause-in_step
returns-clause-in_step c =
    subst (λ (p : StampedPapers). IsInStep p.papers p.stamps) c.self.view_is
    (step-in_turn c.self.inside.turns c.self.inside.papers c.self.inside.stamps c.self.invariant)
