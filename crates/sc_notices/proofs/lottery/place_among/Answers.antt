use Rattle.std.proofs.Common.{arith, get_or, subst, sym}
use Rattle.sc_papers.proofs.Priority.{cmp-equal}
use Rattle.sc_seats.specs.Roll.{IsAscending}
use Rattle.sc_seats.proofs.Offers.{ascending-searchable}
use Rattle.sc_seats.proofs.Order.{before-from_less, before-from_greater}
use Rattle.sc_notices.proofs.LotteryLemmas.{rank-between, rank-there, tickets-ascend}
use Rattle.sc_notices.proofs.lottery.place_among.Goals as goal

pub returns-in-Ok-clause-ahead : goal.returns-in-Ok-clause-ahead
returns-in-Ok-clause-ahead c m i well are is =
    let tickets = c.args.tickets.now in
    let ticket = c.args.ticket.now in
    rank-there m well i c.in-Ok.place tickets ticket are is c.in-Ok.ensures.bound
    ((cmp-equal (get_or tickets c.in-Ok.place ticket) ticket).0 (c.in-Ok.ensures.ok ticket))

pub returns-in-Err-clause-ahead : goal.returns-in-Err-clause-ahead
returns-in-Err-clause-ahead c m i well are is =
    let up = subst IsAscending (sym are) (tickets-ascend m well) in
    let found = c.in-Err.ensures.position (ascending-searchable c.args.tickets.now c.args.ticket.now up) in
    rank-between m well i c.in-Err.place c.args.tickets.now c.args.ticket.now are is (omega (arith, c.in-Err.ensures.bound))
    (λ k d below. before-from_less (get_or c.args.tickets.now k d) c.args.ticket.now (found.0 k d (omega arith) below))
    (λ k d above within. before-from_greater (get_or c.args.tickets.now k d) c.args.ticket.now (found.1 k d above within))
