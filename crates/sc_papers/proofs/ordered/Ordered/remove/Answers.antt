use Rattle.std.proofs.Common.{ap, arith, length, remove, subst, sym, ◌∙◌}
use Rattle.sc_papers.specs.Ordered.{items_in, IsOrder}
use Rattle.sc_papers.proofs.InOrder.{items-many, items-removed}
use Rattle.sc_papers.proofs.ordered.Ordered.remove.Goals as goal

pub remove_slotted-requires-clause-slots : goal.remove_slotted-requires-clause-slots
remove_slotted-requires-clause-slots g c = (subst (λ order. IsOrder order (length c.self.inside.items.items)) c.in-Some.is c.self.invariant).0

pub invariant_of-self-in-Some : goal.invariant_of-self-in-Some
invariant_of-self-in-Some g c =
    let are = subst (λ order. IsOrder order (length c.self.inside.items.items)) c.in-Some.is c.self.invariant in
    (c.remove_slotted.ensures.slots, omega (arith, are.1, c.remove_slotted.ensures.fewer))

pub returns-in-Some : goal.returns-in-Some
returns-in-Some g c =
    let items = c.self.inside.items.items in
    let are = subst (λ order. IsOrder order (length items)) c.in-Some.is c.self.invariant in
    items-removed c.in-Some.order c.remove_slotted.new.slots items c.remove_slotted.new.items.items c.args.position are c.remove_slotted.ensures.slots
    (omega (arith, c.requires, items-many c.self.inside.order items c.self.invariant, are.0.many, ap (λ k. length k.items) c.self.view_is)) c.remove_slotted.ensures.items
    ∙ ap (λ order. remove (items_in order items) c.args.position) (sym c.in-Some.is)
    ∙ ap (λ k. remove k.items c.args.position) c.self.view_is
