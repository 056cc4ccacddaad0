use Rattle.sc_engine.proofs.Offers.{OffersAt_from, seen_by}
use Rattle.sc_engine.proofs.round.rolls.offer_to.Goals as goal

pub returns : goal.returns
returns g c =
    OffersAt_from (seen_by g.R.Roll.keys g.R.Roll.seats) c.args.rolls.now.items c.args.at c.index_mut-roll.result.now c.offer_held.new.self c.args.key c.in_ok-out.out c.requires.within c.index_mut-roll.ensures.value
    (record {
      together = c.in_ok-out.ensures.together;
      last = c.in_ok-out.ensures.last;
      full = c.in_ok-out.ensures.full;
      seats = c.offer_held.ensures.capacity;
      within = c.offer_held.ensures.within;
    })
