use Rattle.std.proofs.Common.{◌≡◌, take}
use Rattle.sc_papers.specs.Restriction.{joined}
use Rattle.sc_checkpoint.specs.Chains.{logs_in}
use Rattle.sc_checkpoint.proofs.segments.Segments.prefix.Given as goal

abbrev pub invariant-loop-position : goal.invariant-loop-position
invariant-loop-position l = l.log.items ≡ joined (take l.position (logs_in l.self))
