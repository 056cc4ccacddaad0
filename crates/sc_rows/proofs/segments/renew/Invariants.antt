use Rattle.std.proofs.Common.{◌≡◌, length}
use Rattle.sc_rows.proofs.segments.renew.Given as goal

abbrev pub invariant-loop-turn : goal.invariant-loop-turn
invariant-loop-turn g l = length l.segments ≡ 3
