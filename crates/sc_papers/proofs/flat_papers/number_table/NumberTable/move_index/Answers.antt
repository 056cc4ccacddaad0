use Rattle.std.proofs.Common.{◌<◌, length, sym, subst}
use Rattle.sc_papers.proofs.NumberTable.{IsTable-moved, moved-nowhere}
use Rattle.sc_papers.proofs.flat_papers.number_table.NumberTable.move_index.Goals as goal

pub returns-then-from-to : goal.returns-then-from-to
returns-then-from-to c = moved-nowhere c.args.self.now c.args.from c.args.to c.requires.from c.requires.to c.if-from-to.true

pub invariant_of-self : goal.invariant_of-self
invariant_of-self c =
    let t = c.self.inside in
    rw (c.move_item.ensures, c.renumber.ensures)
    (IsTable-moved t.order.items c.args.from c.args.to
    (subst (λ xs. c.args.from < length xs) (sym c.self.view_is) c.requires.from)
    (subst (λ xs. c.args.to < length xs) (sym c.self.view_is) c.requires.to)
    t.slots.keys t.positions.items c.self.invariant)
