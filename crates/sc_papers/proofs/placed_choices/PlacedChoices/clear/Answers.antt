use Rattle.std.proofs.Common.{replicate, subst, sym}
use Rattle.sc_papers.specs.Placed.{AreLastTurns}
use Rattle.sc_papers.specs.declared.limits.TheConstants.{MOST_SCHOOLS}
use Rattle.sc_papers.proofs.Placed.{turns-none}
use Rattle.sc_papers.proofs.placed_choices.PlacedChoices.clear.Goals as goal

pub invariant_of-self-else-self-lt255 : goal.invariant_of-self-else-self-lt255
invariant_of-self-else-self-lt255 c = subst (AreLastTurns (replicate MOST_SCHOOLS 0) 1) (sym c.clear.ensures) (turns-none MOST_SCHOOLS)
