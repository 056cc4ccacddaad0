use Rattle.std.proofs.Common.{◌≡◌, [], length}
use Rattle.sc_intake.specs.Log.{log_after}
use Rattle.sc_intake.proofs.log.take_log.Given as goal

abbrev pub invariant-log : goal.invariant-log
invariant-log l = log_after [] l.initial.records.left ≡ log_after l.log.items l.records.left

abbrev pub decreases-log : goal.decreases-log
decreases-log l = length l.records.left
