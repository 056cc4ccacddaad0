use Rattle.std.proofs.Common.{◌≡◌, take}
use Rattle.sc_checkpoint.proofs.segments.Segments.copy_prefix.Given as goal

abbrev pub invariant-loop-position : goal.invariant-loop-position
invariant-loop-position l = l.copy ≡ take l.position l.self
