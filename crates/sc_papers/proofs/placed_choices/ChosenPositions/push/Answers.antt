use Rattle.std.proofs.Common.{[], ap, ◌∙◌}
use Rattle.std.specs.List.{list_any}
use Rattle.std.specs.Prelude.{◌==◌}
use Rattle.sc_papers.specs.Verdict.{first_repeat}
use Rattle.sc_papers.proofs.Repeats.{first_repeat-push}
use Rattle.sc_papers.proofs.placed_choices.ChosenPositions.push.Goals as goal

pub invariant_of-self : goal.invariant_of-self
invariant_of-self c =
    ap (first_repeat []) c.push.ensures
    ∙ first_repeat-push [] c.self.inside.list c.args.position c.self.invariant (ap (list_any (λ p. p == c.args.position)) c.self.view_is ∙ c.requires.once)
