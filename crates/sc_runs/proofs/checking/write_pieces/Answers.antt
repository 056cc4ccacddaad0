use Rattle.std.proofs.Common.{◌≡◌, ◌∙◌, ◌++◌, rules}
use Rattle.sc_checks.specs.FaultLines.{faults_text}
use Rattle.sc_report.specs.Watched.{device_of, has_failed}
use Rattle.sc_runs.proofs.Checks.{AreWrittenTo-failed, AreWrittenTo-more, AreWrittenTo-prefix, unfailed-still}
use Rattle.sc_runs.proofs.checking.write_pieces.Goals as goal

pub returns-in-Err : goal.returns-in-Err
returns-in-Err g c = record { bytes = AreWrittenTo-prefix c.args.lines.now.files c.args.lines.now.left (g.W.Write.contents (device_of c.args.out.now)) c.pieces.lines.left (g.W.Write.contents (device_of c.pieces.out)) c.pieces.checked c.pieces.invariant.written; failed = search rules }

pub returns-in-Err-write_line : goal.returns-in-Err-write_line
returns-in-Err-write_line g c =
    let lines : c.as_slice.result.now ++ faults_text c.args.lines.now.files c.next_piece.new.self.left ≡ faults_text c.args.lines.now.files c.pieces.lines.left = rw c.as_slice.ensures.value (rw c.pieces.invariant.files at c.in-Ok-true.ensures.lines) in record {
      bytes = AreWrittenTo-failed c.args.lines.now.files c.args.lines.now.left (g.W.Write.contents (device_of c.args.out.now)) c.pieces.lines.left c.next_piece.new.self.left
          (g.W.Write.contents (device_of c.pieces.out)) (g.W.Write.contents (device_of c.write_line.new.out)) c.pieces.checked c.as_slice.result.now c.in-Err-write_line.fault
          c.pieces.invariant.written lines c.in-Err-write_line.ensures.bytes;
      failed = search rules;
    }

pub pieces-preserved : goal.pieces-preserved
pieces-preserved g c =
    let lines : c.as_slice.result.now ++ faults_text c.args.lines.now.files c.next_piece.new.self.left ≡ faults_text c.args.lines.now.files c.pieces.lines.left = rw c.as_slice.ensures.value (rw c.pieces.invariant.files at c.in-Ok-true.ensures.lines) in
    record {
      written = AreWrittenTo-more c.args.lines.now.files c.args.lines.now.left (g.W.Write.contents (device_of c.args.out.now)) c.pieces.lines.left c.next_piece.new.self.left
          (g.W.Write.contents (device_of c.pieces.out)) (g.W.Write.contents (device_of c.write_line.new.out)) c.pieces.checked c.as_slice.result.now
          c.pieces.invariant.written (rw c.in-Ok-true.field-0-test at c.in-Ok-true.ensures.found) lines c.in_default.ensures.bytes;
      files = c.next_piece.ensures.files ∙ c.pieces.invariant.files;
      unfailed = unfailed-still (has_failed c.args.out.now) (has_failed c.pieces.out) (has_failed c.write_line.new.out) c.in_default.ensures.failed c.pieces.invariant.unfailed;
    }
