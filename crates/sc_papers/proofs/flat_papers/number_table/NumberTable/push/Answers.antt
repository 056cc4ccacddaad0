use Rattle.std.proofs.Common.{◌≡◌, ◌<◌, ◌^◌, ◌++◌, ◌∷◌, [], false, length, nat_eq, ap, ◌∙◌, arith}
use Rattle.std.specs.List.{list_any}
use Rattle.std.proofs.lemmas.Bool.{cond-false}
use Rattle.sc_papers.proofs.NumberTable.{IsTable-pushed}
use Rattle.sc_papers.proofs.flat_papers.number_table.NumberTable.push.Goals as goal

pub invariant_of-self-2 : goal.invariant_of-self-2
invariant_of-self-2 c =
    let t = c.self.inside in
    let number = c.args.number in
    let new : list_any (nat_eq number) t.order.items ≡ false = ap (list_any (nat_eq number)) c.self.view_is ∙ c.requires in
    let few : length t.order.items < 2 ^ 32 = omega (arith, c.if-position.false, c.len-position.ensures) in
    let keys : c.insert.new.self.keys ≡ t.slots.keys ++ number ∷ [] =
    c.in_ok-insert.ensures.keys ∙ cond-false (list_any (nat_eq number) t.slots.keys) t.slots.keys (t.slots.keys ++ number ∷ []) (c.self.invariant.same number ∙ new) in
    rw (c.push_reserved.ensures.items, c.reserve.ensures.items, keys, c.push_reserved-2.ensures.items, c.reserve-2.ensures.items, c.len-position.ensures ∙ t.order.ok.0)
    (IsTable-pushed t.order.items t.slots.keys t.positions.items number c.self.invariant new few)
