use Rattle.std.proofs.Common.{◌≡◌, ◌+◌, length}
use Rattle.sc_intake.specs.Checking.{script_faults_from}
use Rattle.sc_intake.proofs.script_faults.next_cause.Given as goal

abbrev pub invariant-records : goal.invariant-records
invariant-records l = record {
  judged : script_faults_from (l.initial.row + 1) l.initial.records.left ≡ script_faults_from (l.row + 1) l.records.left;
  count : l.row + length l.records.left ≡ l.initial.row + length l.initial.records.left;
}

abbrev pub decreases-records : goal.decreases-records
decreases-records l = length l.records.left
