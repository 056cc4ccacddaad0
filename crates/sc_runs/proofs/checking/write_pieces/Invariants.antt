use Rattle.std.proofs.Common.{◌≡◌, length}
use Rattle.sc_report.specs.Watched.{device_of, has_failed}
use Rattle.sc_runs.proofs.Checks.{AreWrittenTo}
use Rattle.sc_runs.proofs.checking.write_pieces.Given as goal

abbrev pub invariant-pieces : goal.invariant-pieces
invariant-pieces g l = record {
  written : AreWrittenTo l.initial.lines.files l.initial.lines.left (g.W.Write.contents (device_of l.initial.out)) l.lines.left (g.W.Write.contents (device_of l.out)) l.checked;
  files : l.lines.files ≡ l.initial.lines.files;
  unfailed : has_failed l.out ≡ has_failed l.initial.out;
}

abbrev pub decreases-pieces : goal.decreases-pieces
decreases-pieces g l = length l.lines.left
