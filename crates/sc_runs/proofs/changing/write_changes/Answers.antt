use Rattle.std.proofs.Common.{subst, sym}
use Rattle.sc_report.specs.Watched.{device_of}
use Rattle.sc_runs.specs.Pieces.{WritesInPieces}
use Rattle.sc_runs.proofs.changing.write_changes.Goals as goal

pub returns-in-Ok : goal.returns-in-Ok
returns-in-Ok g c = record {
  bytes = λ m a are hold.
      let (parts, those, text) = c.in-Ok.ensures m a are hold in
      subst (λ t. WritesInPieces t (g.W.Write.contents (device_of c.args.out.now)) (g.W.Write.contents (device_of c.write_parts.new.out)) c.write_parts.result)
      (sym text) (c.write_parts.ensures.bytes parts those);
  failed = c.write_parts.ensures.failed;
}
