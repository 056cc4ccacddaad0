use Rattle.std.proofs.Common.{◌≡◌, ◌∷◌, ◌++◌, [], Some, ap, arith, length, subst, sym, ◌∙◌}
use Rattle.std.proofs.lemmas.List.{length_push}
use Rattle.sc_papers.specs.Slots.{AreSlots}
use Rattle.sc_papers.specs.Ordered.{items_in, IsOrder}
use Rattle.sc_papers.proofs.InOrder.{items-many, items-more}
use Rattle.sc_papers.proofs.Slots.{AreSlots-more}
use Rattle.sc_papers.proofs.ordered.Ordered.push_reserved.Goals as goal

pub invariant_of-self-in-Some : goal.invariant_of-self-in-Some
invariant_of-self-in-Some g c =
    let o = c.self.inside in
    let items = o.items.items in
    let slots = c.in-Some.order.items in
    let are = subst (λ order. IsOrder order (length items)) c.in-Some.is c.self.invariant in
    let more_slots : c.push_reserved-in-Some.new.self.items ≡ slots ++ length items ∷ [] =
    c.push_reserved-in-Some.ensures.items ∙ ap (λ n. slots ++ n ∷ []) (c.len.ensures ∙ o.items.ok.0) in
    rw (more_slots, c.push_reserved-in-Some-2.ensures.items) (
      subst (AreSlots (slots ++ length items ∷ [])) (sym (length_push items c.args.item)) (AreSlots-more slots (length items) are.0),
      omega (arith, c.requires.few, items-many o.order items c.self.invariant, ap (λ k. length k.items) c.self.view_is, length_push items c.args.item),
    )

pub returns-in-Some : goal.returns-in-Some
returns-in-Some g c =
    let o = c.self.inside in
    let items = o.items.items in
    let slots = c.in-Some.order.items in
    let are = subst (λ order. IsOrder order (length items)) c.in-Some.is c.self.invariant in
    ap (items_in (Some c.push_reserved-in-Some.new.self)) c.push_reserved-in-Some-2.ensures.items
    ∙ items-more c.in-Some.order c.push_reserved-in-Some.new.self items c.args.item are.0
    (c.push_reserved-in-Some.ensures.items ∙ ap (λ n. slots ++ n ∷ []) (c.len.ensures ∙ o.items.ok.0))
    ∙ ap (λ order. items_in order items ++ c.args.item ∷ []) (sym c.in-Some.is)
    ∙ ap (λ k. k.items ++ c.args.item ∷ []) c.self.view_is
