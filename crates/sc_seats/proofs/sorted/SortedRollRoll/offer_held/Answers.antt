use Rattle.std.proofs.Common.{arith}
use Rattle.sc_seats.proofs.Offers.{Offered-sorted}
use Rattle.sc_seats.proofs.sorted.SortedRollRoll.offer_held.Goals as goal

pub invariant_of-self-2 : goal.invariant_of-self-2
invariant_of-self-2 c =
    let done = Offered-sorted c.self.inside.keys.items c.as_slice.result.now c.put_in.new.keys.items c.take_excess.new.keys.items c.args.key c.position_of-position.result c.take_excess.result
    c.self.invariant.ascending c.as_slice.ensures.value c.position_of-position.ensures.ahead c.position_of-position.ensures.behind c.in_ok-put_in.ensures.put c.take_excess.ensures.last in
    record { ascending = done.ascending; within = omega arith }

pub returns-clause-together : goal.returns-clause-together
returns-clause-together c =
    let done = Offered-sorted c.self.inside.keys.items c.as_slice.result.now c.put_in.new.keys.items c.take_excess.new.keys.items c.args.key c.position_of-position.result c.take_excess.result
    c.self.invariant.ascending c.as_slice.ensures.value c.position_of-position.ensures.ahead c.position_of-position.ensures.behind c.in_ok-put_in.ensures.put c.take_excess.ensures.last in
    rw (← c.self.view_is) done.together

pub returns-clause-last : goal.returns-clause-last
returns-clause-last c =
    (Offered-sorted c.self.inside.keys.items c.as_slice.result.now c.put_in.new.keys.items c.take_excess.new.keys.items c.args.key c.position_of-position.result c.take_excess.result
    c.self.invariant.ascending c.as_slice.ensures.value c.position_of-position.ensures.ahead c.position_of-position.ensures.behind c.in_ok-put_in.ensures.put c.take_excess.ensures.last).last

pub returns-clause-ascending : goal.returns-clause-ascending
returns-clause-ascending c =
    (Offered-sorted c.self.inside.keys.items c.as_slice.result.now c.put_in.new.keys.items c.take_excess.new.keys.items c.args.key c.position_of-position.result c.take_excess.result
    c.self.invariant.ascending c.as_slice.ensures.value c.position_of-position.ensures.ahead c.position_of-position.ensures.behind c.in_ok-put_in.ensures.put c.take_excess.ensures.last).ascending
