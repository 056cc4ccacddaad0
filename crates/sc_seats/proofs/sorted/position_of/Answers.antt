use Rattle.std.proofs.Common.{arith, get_or}
use Rattle.sc_seats.proofs.Offers.{ascending-searchable}
use Rattle.sc_seats.proofs.Order.{before-from_less, before-from_greater}
use Rattle.sc_seats.proofs.sorted.position_of.Goals as goal

pub returns-in-Err-clause-ahead : goal.returns-in-Err-clause-ahead
returns-in-Err-clause-ahead c k d below =
    before-from_less (get_or c.args.keys.now k d) c.args.key.now
    ((c.in-Err.ensures.position (ascending-searchable c.args.keys.now c.args.key.now c.requires.ascending)).0 k d (omega arith) below)

pub returns-in-Err-clause-behind : goal.returns-in-Err-clause-behind
returns-in-Err-clause-behind c k d above here =
    before-from_greater (get_or c.args.keys.now k d) c.args.key.now
    ((c.in-Err.ensures.position (ascending-searchable c.args.keys.now c.args.key.now c.requires.ascending)).1 k d above here)
