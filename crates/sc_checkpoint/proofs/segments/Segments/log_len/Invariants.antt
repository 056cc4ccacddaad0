use Rattle.std.proofs.Common.{◌≡◌, ◌-◌, ◌^◌, length, min, take}
use Rattle.sc_papers.specs.Restriction.{joined}
use Rattle.sc_checkpoint.specs.Chains.{logs_in}
use Rattle.sc_checkpoint.proofs.segments.Segments.log_len.Given as goal

abbrev pub invariant-loop-position : goal.invariant-loop-position
invariant-loop-position l = l.count ≡ min (length (joined (take l.position (logs_in l.self)))) (2 ^ 64 - 1)
