use Rattle.std.proofs.Common.{◌≡◌, replicate}
use Rattle.sc_tallies.specs.Tally.{no_tally}
use Rattle.sc_tallies.proofs.tally.no_tallies.Given as goal

abbrev pub invariant-loop-added : goal.invariant-loop-added
invariant-loop-added l = l.tallies.items ≡ replicate l._added no_tally
