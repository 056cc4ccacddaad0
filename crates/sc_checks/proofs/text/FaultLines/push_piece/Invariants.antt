use Rattle.std.proofs.Common.{◌≡◌, ◌≤◌, ◌++◌, length}
use Rattle.sc_checks.specs.FaultLines.{faults_text}
use Rattle.sc_checks.proofs.text.FaultLines.push_piece.Given as goal

abbrev pub invariant-faults : goal.invariant-faults
invariant-faults l = record {
  lines : l.text.items ++ faults_text l.initial.self.files l.self.left ≡ l.initial.text.items ++ faults_text l.initial.self.files l.initial.self.left;
  files : l.self.files ≡ l.initial.self.files;
  fewer : length l.self.left ≤ length l.initial.self.left;
}

abbrev pub decreases-faults : goal.decreases-faults
decreases-faults l = length l.self.left
