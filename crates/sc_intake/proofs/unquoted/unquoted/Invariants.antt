use Rattle.std.proofs.Common.{length}
use Rattle.sc_intake.proofs.Unquoting.{AreWritten}
use Rattle.sc_intake.proofs.unquoted.unquoted.Given as goal

abbrev pub invariant-records : goal.invariant-records
invariant-records l = AreWritten l.text.items l.initial.records.left l.records.left

abbrev pub decreases-records : goal.decreases-records
decreases-records l = length l.records.left
