use Rattle.std.proofs.Common.{◌≡◌, not, ap, arith, length, subst, sym, ◌∙◌}
use Rattle.std.specs.List.{range_with_len}
use Rattle.sc_papers.specs.Slots.{AreSlots}
use Rattle.sc_papers.proofs.Slots.{AreSlots-first}
use Rattle.sc_papers.proofs.InOrder.{items-first, items-many}
use Rattle.sc_papers.proofs.ordered.Ordered.make_order.Goals.{in-Some-1, in-None-1}
use Rattle.sc_papers.proofs.ordered.Ordered.make_order.Goals as goal

pub invariant_of-self-in_ok-first_slots-2 : goal.invariant_of-self-in_ok-first_slots-2
invariant_of-self-in_ok-first_slots-2 g c =
    let o = c.self.inside in
    let count = length o.items.items in
    let made : c.in_ok-first_slots.field-0.items ≡ range_with_len 0 count = c.in_ok-first_slots.ensures ∙ ap (range_with_len 0) (c.len.ensures ∙ o.items.ok.0) in (
      subst (λ slots. AreSlots slots count) (sym made) (AreSlots-first count),
      omega (arith, c.requires, items-many o.order o.items.items c.self.invariant, ap (λ k. length k.items) c.self.view_is),
    )

pub returns-in_ok-first_slots : goal.returns-in_ok-first_slots
returns-in_ok-first_slots g c =
    let o = c.self.inside in
    let laid = items-first o.order c.in_ok-first_slots.field-0 o.items.items (c.is_none.ensures ∙ ap not c.if-is_none.true)
    (c.in_ok-first_slots.ensures ∙ ap (range_with_len 0) (c.len.ensures ∙ o.items.ok.0)) ∙ ap (λ k. k.items) c.self.view_is in
    elim c.match-self.branch [
      | in-Some-1 w ↦ ap (λ k. k.items) w.self-is ∙ laid
      | in-None-1 w ↦ ap (λ k. k.items) w.self-is ∙ laid
    ]
