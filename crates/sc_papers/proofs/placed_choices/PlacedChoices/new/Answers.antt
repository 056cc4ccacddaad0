use Rattle.std.proofs.Common.{◌≡◌, [], replicate, rules, subst, sym}
use Rattle.sc_papers.specs.Placed.{AreLastTurns}
use Rattle.sc_papers.specs.declared.limits.TheConstants.{MOST_SCHOOLS}
use Rattle.sc_papers.proofs.Placed.{turns-none}
use Rattle.sc_papers.proofs.placed_choices.PlacedChoices.new.Goals as goal

pub invariant_of-result-2 : goal.invariant_of-result-2
invariant_of-result-2 c =
    let none : c.default.result ≡ [] = search rules in
    subst (AreLastTurns (replicate MOST_SCHOOLS 0) 1) (sym none) (turns-none MOST_SCHOOLS)
