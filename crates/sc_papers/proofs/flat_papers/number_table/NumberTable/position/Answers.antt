use Rattle.std.proofs.Common.{Some, nat_eq, position, sym, ap, ◌∙◌}
use Rattle.sc_papers.proofs.NumberTable.{looked-up, not-found}
use Rattle.sc_papers.proofs.flat_papers.number_table.NumberTable.position.Goals as goal

pub returns-in_err-slot : goal.returns-in_err-slot
returns-in_err-slot c =
    let t = c.self.inside in
    c.from_residual.ensures
    ∙ sym (not-found t.order.items t.slots.keys t.positions.items c.args.number c.self.invariant (sym c.get_index_of.ensures.index ∙ c.in_err-slot.was))
    ∙ ap (position (nat_eq c.args.number)) c.self.view_is

pub returns : goal.returns
returns c =
    let t = c.self.inside in
    ap Some c.index.ensures
    ∙ sym (looked-up t.order.items t.slots.keys t.positions.items c.args.number c.in_ok-slot.slot c.self.invariant (sym c.get_index_of.ensures.index ∙ c.in_ok-slot.was) c.index.result.now)
    ∙ ap (position (nat_eq c.args.number)) c.self.view_is
