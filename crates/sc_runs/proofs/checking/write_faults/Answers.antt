use Rattle.std.proofs.Common.{rules}
use Rattle.sc_report.specs.Watched.{device_of}
use Rattle.sc_runs.proofs.Checks.{WritesFaults-unflushed}
use Rattle.sc_runs.proofs.checking.write_faults.Goals as goal

pub returns-in-Err-flush_output : goal.returns-in-Err-flush_output
returns-in-Err-flush_output g c = record {
  bytes = WritesFaults-unflushed c.args.lines.now.files c.args.lines.now.left (g.W.Write.contents (device_of c.args.out.now)) (g.W.Write.contents (device_of c.write_pieces.new.out)) (g.W.Write.contents (device_of c.flush_output.new.out))
      c.in-Ok.checked c.in-Err-flush_output.fault c.in-Ok.ensures.bytes c.flush_output.ensures.bytes c.in-Err-flush_output.ensures.kinds;
  failed = search rules;
}
