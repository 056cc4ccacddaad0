use Rattle.std.proofs.Common.{ℕ, ◌||◌, List, nat_eq, ap, ◌∙◌}
use Rattle.std.specs.List.{list_any}
use Rattle.sc_intake.proofs.SeenLemmas.{tree-more}
use Rattle.sc_intake.proofs.seen.SeenNumbers.insert.Goals as goal

pub returns-clause-numbers : goal.returns-clause-numbers
returns-clause-numbers c = λ m.
    tree-more c.self.inside.numbers c.insert.new.self c.args.number m c.in_ok-insert.ensures.updates ∙ ap (λ (ns : List ℕ). nat_eq m c.args.number || list_any (nat_eq m) ns) c.self.view_is
