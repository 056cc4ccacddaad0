use Rattle.std.proofs.Common.{◌∷◌, ◌++◌, [], ap, sym, ◌∙◌}
use Rattle.sc_papers.proofs.Slots.{first-more}
use Rattle.sc_papers.proofs.record_slots.first_slots.Goals as goal

pub loop-slot-preserved : goal.loop-slot-preserved
loop-slot-preserved c =
    c.in_ok-push.ensures.items ∙ ap (λ xs. xs ++ c.loop-slot.slot ∷ []) c.loop-slot.invariant ∙ sym (first-more c.loop-slot.slot)
