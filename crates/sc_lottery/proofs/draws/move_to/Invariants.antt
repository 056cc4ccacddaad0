use Rattle.std.proofs.Common.{◌≡◌, ◌≤◌}
use Rattle.sc_lottery.specs.Stream.{moved_to}
use Rattle.sc_lottery.proofs.draws.move_to.Given as goal

abbrev pub invariant-loop-passed : goal.invariant-loop-passed
invariant-loop-passed l = (l.stream ≡ moved_to l._passed l.initial.stream) × (l._passed ≤ l.index)
