use Rattle.std.proofs.Common.{ap, length, subst, sym, ◌∙◌}
use Rattle.indexmap.specs.IndexMap.{move_index}
use Rattle.sc_papers.specs.Ordered.{items_in, IsOrder}
use Rattle.sc_papers.proofs.EntryOrder.{moved-items}
use Rattle.sc_papers.proofs.InOrder.{items-moved}
use Rattle.sc_papers.proofs.Slots.{AreSlots-reordered}
use Rattle.sc_papers.proofs.ordered.Ordered.move_index.Goals as goal

pub invariant_of-self-in-Some : goal.invariant_of-self-in-Some
invariant_of-self-in-Some g c =
    let count = length c.self.inside.items.items in
    let slots = c.in-Some.order.items in
    let are = subst (λ order. IsOrder order count) c.in-Some.is c.self.invariant in
    rw c.move_item-in-Some.ensures (
      AreSlots-reordered slots (move_index slots c.args.from c.args.to) count are.0 (moved-items slots c.args.from c.args.to),
      are.1,
    )

pub returns-in-Some : goal.returns-in-Some
returns-in-Some g c =
    let items = c.self.inside.items.items in
    items-moved c.in-Some.order c.move_item-in-Some.new.items items c.args.from c.args.to c.move_item-in-Some.ensures
    ∙ ap (λ order. move_index (items_in order items) c.args.from c.args.to) (sym c.in-Some.is)
    ∙ ap (λ k. move_index k.items c.args.from c.args.to) c.self.view_is
