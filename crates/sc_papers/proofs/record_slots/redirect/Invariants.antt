use Rattle.std.proofs.Common.{◌≡◌, ◌++◌, drop, map, take}
use Rattle.sc_papers.specs.Slots.{new_slot}
use Rattle.sc_papers.proofs.record_slots.redirect.Given as goal

abbrev pub invariant-loop-slot : goal.invariant-loop-slot
invariant-loop-slot l =
    l.slot-items ≡ map (new_slot l.last l.free) (take l.slot-index l.fn.slots.items) ++ drop l.slot-index l.fn.slots.items
