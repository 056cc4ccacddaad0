use Rattle.std.proofs.Common.{arith}
use Rattle.sc_engine.proofs.Tallies.{tallies-next}
use Rattle.sc_engine.proofs.round.rolls.tallies_of.Goals as goal

pub loop-position-preserved : goal.loop-position-preserved
loop-position-preserved g c a fits =
    tallies-next g.R.Roll.keys g.R.Roll.seats c.args.rolls.now.items c.args.papers.now a c.loop-position.position c.index-roll.result.now c.loop-position.tallies.items c.push.new.self.items c.tally_of.result
    c.students_len.ensures.well_formed (omega (arith, c.loop-position-test.true, c.schools_len-position-end.ensures)) c.requires c.index-roll.ensures c.tally_of.ensures.ascending c.tally_of.ensures.tally fits (c.loop-position.invariant a fits) c.in_ok-push.ensures.items
