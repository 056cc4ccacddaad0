use Rattle.std.proofs.Common.{◌∷◌, [], Ok, Err, rules}
use Rattle.sc_repair.specs.Standing.{matching_of}
use Rattle.sc_report.specs.Text.{report_text, IsReportText}
use Rattle.sc_report.specs.Watched.{device_of}
use Rattle.sc_steps.specs.TwoWriters.{to_output}
use Rattle.sc_steps.proofs.Openings.{Keeps-refl}
use Rattle.sc_steps.proofs.TwoWriters.{is_journal_fault-text, GrowsByPrefix-flushed, Writes-flushed, Writes-output}
use Rattle.sc_steps.proofs.Answering.{or-nothing}
use Rattle.sc_runs.proofs.running.finish.Goals as goal

pub returns-in-Err : goal.returns-in-Err
returns-in-Err g c = record {
  bytes = Writes-output (report_text c.args.clearing.now.standing.papers (matching_of c.args.clearing.now.standing)) (g.J.Recorder.contents c.args.journal.now) _ _ (Err c.in-Err.fault) c.in-Err.ensures.bytes;
  failed = search rules;
  journal_failed = or-nothing _ _ (is_journal_fault-text (IsReportText c.args.clearing.now.standing.papers (matching_of c.args.clearing.now.standing)) _ _ (Err c.in-Err.fault) c.in-Err.ensures.bytes);
}

pub returns-in-Err-flush : goal.returns-in-Err-flush
returns-in-Err-flush g c =
    let report = report_text c.args.clearing.now.standing.papers (matching_of c.args.clearing.now.standing) in
    let journal = g.J.Recorder.contents c.args.journal.now in
    let output = g.W.Write.contents (device_of c.write_standing_report.new.out) in record {
      bytes = GrowsByPrefix-flushed (to_output report ∷ [])
          journal (g.J.Recorder.contents c.flush.new.self) (g.W.Write.contents (device_of c.args.out.now)) output output
          (Writes-output report journal _ _ (Ok tt) c.in_default.ensures.bytes) c.flush.ensures.bytes (Keeps-refl output);
      failed = search rules;
      journal_failed = search rules;
    }

pub returns : goal.returns
returns g c =
    let report = report_text c.args.clearing.now.standing.papers (matching_of c.args.clearing.now.standing) in
    let journal = g.J.Recorder.contents c.args.journal.now in record {
      bytes = Writes-flushed (to_output report ∷ [])
          journal (g.J.Recorder.contents c.flush.new.self) (g.W.Write.contents (device_of c.args.out.now))
          (g.W.Write.contents (device_of c.write_standing_report.new.out)) (g.W.Write.contents (device_of c.flush_output.new.out)) c.flush_output.result
          (Writes-output report journal _ _ (Ok tt) c.in_default.ensures.bytes) c.flush.ensures.bytes c.flush_output.ensures.bytes c.flush_output.ensures.kinds;
      failed = search rules;
      journal_failed = search rules;
    }
