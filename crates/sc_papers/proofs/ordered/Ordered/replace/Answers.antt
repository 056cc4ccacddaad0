use Rattle.std.proofs.Common.{ap, slice_set, subst, sym, ◌<◌, length, ◌∙◌}
use Rattle.sc_papers.specs.Ordered.{items_in}
use Rattle.sc_papers.proofs.InOrder.{items-put}
use Rattle.sc_papers.proofs.ordered.Ordered.replace.Goals as goal

pub returns-clause-put : goal.returns-clause-put
returns-clause-put g c =
    let o = c.self.inside in
    (λ t. items_in o.order (slice_set o.items.items (c.slot_at-slot.ensures t) (c.replace.ensures.after t)))
    ∙ items-put o.order o.items.items c.args.position c.args.item c.self.invariant (subst (λ k. c.args.position < length k.items) (sym c.self.view_is) c.requires)
    ∙ ap (λ k. slice_set k.items c.args.position c.args.item) c.self.view_is
