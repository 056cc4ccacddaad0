use Rattle.std.proofs.Common.{◌≡◌, ◌<◌, Some, get_or, length, nat_eq, position, sym, subst}
use Rattle.std.proofs.lemmas.List.{get_or_read}
use Rattle.sc_papers.proofs.NumberTable.{IsTable-swapped}
use Rattle.sc_papers.proofs.flat_papers.number_table.NumberTable.swap.Goals as goal

pub invariant_of-self : goal.invariant_of-self
invariant_of-self c =
    let t = c.self.inside in
    let order = t.order.items in
    let low_a : c.args.a < length order = subst (λ xs. c.args.a < length xs) (sym c.self.view_is) c.requires.a in
    let low_b : c.args.b < length order = subst (λ xs. c.args.b < length xs) (sym c.self.view_is) c.requires.b in
    let found_a : position (nat_eq (get_or order c.args.a 0)) t.slots.keys ≡ Some c.slot_of-slot_a.result =
    subst (λ x. position (nat_eq x) t.slots.keys ≡ Some c.slot_of-slot_a.result) (get_or_read order c.args.a c.index.result.now low_a c.index.ensures 0) c.slot_of-slot_a.ensures in
    let found_b : position (nat_eq (get_or order c.args.b 0)) t.slots.keys ≡ Some c.slot_of-slot_b.result =
    subst (λ x. position (nat_eq x) t.slots.keys ≡ Some c.slot_of-slot_b.result) (get_or_read order c.args.b c.index-2.result.now low_b c.index-2.ensures 0) c.slot_of-slot_b.ensures in
    rw (c.swap_items.ensures, c.swap.ensures.items)
    (IsTable-swapped order t.slots.keys t.positions.items c.args.a c.args.b c.slot_of-slot_a.result c.slot_of-slot_b.result c.self.invariant c.len.ensures.unique low_a low_b found_a found_b)
