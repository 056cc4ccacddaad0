use Rattle.std.proofs.Common.{ap, map, nat_eq, remove, sym, ◌∙◌}
use Rattle.sc_papers.specs.Market.{Market}
use Rattle.sc_papers.proofs.Changing.{remove-found}
use Rattle.sc_papers.proofs.ChangingRepresentation.{without-absent}
use Rattle.sc_papers.proofs.papers.Papers.withdraw.Goals as goal

pub invariant_of-self : goal.invariant_of-self
invariant_of-self c =
    c.remove.ensures ∙ ap (λ rs. remove rs c.in-Some.position) c.self.invariant
    ∙ remove-found (λ e. e.1) (nat_eq c.args.student) c.self.inside.flat.students c.in-Some.position c.in-Some.ensures.position
    ∙ sym (ap (λ (m : Market). map (λ e. e.1) m.students) c.withdraw.ensures.left)

pub invariant_of-self-in_default : goal.invariant_of-self-in_default
invariant_of-self-in_default c =
    c.self.invariant
    ∙ ap (λ (m : Market). map (λ e. e.1) m.students) (without-absent c.self.inside.flat c.args.student c.in_default.ensures.position ∙ sym c.withdraw.ensures.left)
