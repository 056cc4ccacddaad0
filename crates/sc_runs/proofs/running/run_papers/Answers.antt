use Rattle.std.proofs.Common.{rules}
use Rattle.sc_runs.proofs.Replies.{WritesRun-session}
use Rattle.sc_report.specs.Watched.{device_of}
use Rattle.sc_runs.proofs.running.run_papers.Goals as goal

pub returns-in-Ok-read_records : goal.returns-in-Ok-read_records
returns-in-Ok-read_records g c = record {
  bytes = WritesRun-session _ c.args.papers (g.A.Amendable.stands c.in-Ok.amended) c.in-Ok-read_records.records
      (record { journal = g.J.Recorder.contents c.args.journal.now; output = g.W.Write.contents (device_of c.args.out.now) })
      (record { journal = g.J.Recorder.contents c.run_records.new.journal; output = g.W.Write.contents (device_of c.run_records.new.out) })
      c.run_records.result c.in-Ok-read_records.ensures.read c.in-Ok.ensures.unamended c.run_records.ensures.bytes;
  failed = search rules;
  journal_failed = search rules;
}
