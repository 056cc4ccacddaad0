use Rattle.std.proofs.Common.{arith}
use Rattle.sc_ledgers.specs.declared.ledger.TheConstants.{BLOCK}
use Rattle.sc_ledgers.proofs.Listing.{count-block}
use Rattle.sc_ledgers.proofs.ledger.block_of.Goals as goal

pub loop-at-preserved : goal.loop-at-preserved
loop-at-preserved c = record {
  within = omega (arith, c.loop-at-test.true);
  before = omega (arith, count-block c.args.turn c.loop-at.at BLOCK c.args.turns.now, c.loop-at.invariant.before, c.count_to-here.ensures);
  fewer = omega (arith, c.if-seats-count.false);
}
