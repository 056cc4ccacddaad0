use Rattle.std.proofs.Common.{◌<◌, get_or, length, ap, ◌∙◌, arith}
use Rattle.std.specs.Prelude.{slice_set}
use Rattle.std.proofs.lemmas.List.{get_or_default}
use Rattle.std.proofs.lemmas.List.Edits.{map_over_more}
use Rattle.sc_papers.specs.Slots.{new_slot}
use Rattle.sc_papers.proofs.Slots.{unmoved}
use Rattle.sc_papers.proofs.record_slots.redirect.Goals as goal

pub returns-then-last-free : goal.returns-then-last-free
returns-then-last-free c = unmoved c.args.last c.args.free c.args.slots.now.items c.if-last-free.true

pub loop-slot-preserved : goal.loop-slot-preserved
loop-slot-preserved c =
    let before = c.args.slots.now.items in
    let now = c.loop-slot.slot-items in
    let at = c.loop-slot.slot-index in
    let x = get_or now at 0 in
    let low : at < length before = omega (arith, c.loop-slot-test.true, ap length c.deref_mut-slot-items.ensures.value) in
    let within : at < length now = omega (arith, c.loop-slot-test.true, c.loop-slot.auto.slot-items) in
    ap (slice_set now at) c.new_slot.ensures
    ∙ map_over_more (new_slot c.args.last c.args.free) before now at x low c.loop-slot.invariant (get_or_default now at 0 x within)
