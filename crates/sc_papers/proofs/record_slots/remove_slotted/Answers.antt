use Rattle.std.proofs.Common.{◌≡◌, ap, length, map, remove, sym, subst, ◌∙◌}
use Rattle.sc_papers.specs.Slots.{in_order, new_slot, AreSlots}
use Rattle.sc_papers.proofs.Slots.{fewer}
use Rattle.sc_papers.proofs.record_slots.remove_slotted.Goals as goal

pub returns-clause-slots : goal.returns-clause-slots
returns-clause-slots g c =
    let slots = c.args.slots.now.items in
    let free = c.remove-free.result in
    let kept = c.swap_remove.new.self in
    let left : c.redirect.new.slots.items ≡ map (new_slot kept.len free) (remove slots c.args.position) =
    c.redirect.ensures ∙ (λ t. map (new_slot (c.len.ensures t) free) (c.remove-free.ensures.items t)) in
    subst (λ s. AreSlots s (length kept.items)) (sym left)
    (fewer c.swap_remove.result slots c.args.items.now kept c.args.position free c.requires.slots c.requires.position c.remove-free.ensures.value
    c.swap_remove.ensures.len c.swap_remove.ensures.by_index).0

pub returns-clause-items : goal.returns-clause-items
returns-clause-items g c = λ none.
    let slots = c.args.slots.now.items in
    let free = c.remove-free.result in
    let kept = c.swap_remove.new.self in
    let left : c.redirect.new.slots.items ≡ map (new_slot kept.len free) (remove slots c.args.position) =
    c.redirect.ensures ∙ (λ t. map (new_slot (c.len.ensures t) free) (c.remove-free.ensures.items t)) in
    ap (λ s. in_order none s kept.items) left
    ∙ (fewer none slots c.args.items.now kept c.args.position free c.requires.slots c.requires.position c.remove-free.ensures.value
    c.swap_remove.ensures.len c.swap_remove.ensures.by_index).1
