use Rattle.std.proofs.Common.{ap, subst, swap, sym, ◌<◌, length, ◌∙◌}
use Rattle.sc_papers.specs.Ordered.{items_in}
use Rattle.sc_papers.proofs.InOrder.{items-swapped}
use Rattle.sc_papers.proofs.ordered.Ordered.swap.Goals as goal

pub returns : goal.returns
returns g c =
    let o = c.self.inside in
    ap (items_in o.order) (c.swap_items.ensures ∙ (λ t. swap o.items.items (c.slot_at-slot_a.ensures t) (c.slot_at-slot_b.ensures t)))
    ∙ items-swapped o.order o.items.items c.args.a c.args.b c.self.invariant
    (subst (λ k. c.args.a < length k.items) (sym c.self.view_is) c.requires.a)
    (subst (λ k. c.args.b < length k.items) (sym c.self.view_is) c.requires.b)
    ∙ ap (λ k. swap k.items c.args.a c.args.b) c.self.view_is
