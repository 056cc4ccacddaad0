use Rattle.std.proofs.Common.{◌≤◌, length, All}
use Rattle.std.specs.Prelude.{Contains}
use Rattle.sc_rows.proofs.rolls.expect_offers.Given as goal

abbrev pub invariant-loop-offer : goal.invariant-loop-offer
invariant-loop-offer g l = record {
  within : length (g.R.Roll.keys l.roll) ≤ g.R.Roll.seats l.roll;
  known : All (λ held. Contains l.seen.items held.student) (g.R.Roll.keys l.roll);
}
