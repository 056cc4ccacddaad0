use Rattle.std.proofs.Common.{◌≡◌, Some, subst, ◌∙◌}
use Rattle.sc_papers.specs.NumberTable.{IsTable}
use Rattle.sc_papers.proofs.NumberTable.{IsTable-popped}
use Rattle.sc_papers.proofs.Positions.{position-there}
use Rattle.sc_papers.proofs.flat_papers.number_table.NumberTable.pop.Goals as goal

pub invariant_of-self : goal.invariant_of-self
invariant_of-self c =
    let t = c.self.inside in
    let number = c.in-Some.number in
    let slot = c.slot_of-slot.result in
    let slots = t.slots.keys in
    let table = subst (λ xs. IsTable xs slots t.positions.items) c.in-Some.ensures.items c.self.invariant in
    let out : c.swap_remove_index.result ≡ Some number = c.swap_remove_index.ensures.key ∙ position-there slots number slot c.slot_of-slot.ensures in
    let keys = rw out at c.swap_remove_index.ensures.keys in
    rw c.swap_remove.ensures.items
    (IsTable-popped c.pop.new.self.items slots t.positions.items number slot table c.slot_of-slot.ensures c.swap_remove_index.new.self.keys c.swap_remove.result keys
    (rw out at c.swap_remove_index.ensures.updates).0)
