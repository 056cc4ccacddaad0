use Rattle.std.proofs.Common.{◌∙◌}
use Rattle.std.proofs.lemmas.Map.Entries.{entries_from_clone}
use Rattle.sc_papers.proofs.assignment.Assignment.copy.Goals as goal

pub returns : goal.returns
returns c =
    entries_from_clone _ _ (λ x y same. same) (λ v w same. same) c.self.inside.places.entries c.in_ok-clone.field-0.entries c.in_ok-clone.ensures.cases
    ∙ c.self.view_is
