use Rattle.std.proofs.Common.{◌≡◌, ◌-◌, map, take}
use Rattle.sc_checkpoint.specs.Chains.{logs_in}
use Rattle.sc_ledgers.specs.Proposals.{made_at}
use Rattle.sc_ledgers.proofs.proposals.count_made.Given as goal

abbrev pub invariant-loop-position : goal.invariant-loop-position
invariant-loop-position l = l.count ≡ made_at l.papers (logs_in l.segments) (take l.position-index (map (λ p. p - l.gap) l.positions))
