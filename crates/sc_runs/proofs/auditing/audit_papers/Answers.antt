use Rattle.std.proofs.Common.{rules}
use Rattle.sc_runs.proofs.Verdicts.{WritesVerdict-failed, WritesVerdict-written}
use Rattle.sc_report.specs.Watched.{device_of}
use Rattle.sc_runs.proofs.auditing.audit_papers.Goals as goal

pub returns-in-Ok-write_verdict : goal.returns-in-Ok-write_verdict
returns-in-Ok-write_verdict g c = record {
  bytes = WritesVerdict-written c.args.papers.now _ c.as_slice.result.now c.in-Ok.entries.items c.in-Ok-audit.verdict
      (g.W.Write.contents (device_of c.args.out.now)) (g.W.Write.contents (device_of c.write_verdict.new.out))
      c.in-Ok.ensures c.as_slice.ensures.value c.in-Ok-audit.ensures.verdict c.in-Ok-write_verdict.ensures.bytes;
  failed = search rules;
}

pub returns : goal.returns
returns g c = record {
  bytes = WritesVerdict-failed c.args.papers.now _ c.as_slice.result.now c.in-Ok.entries.items c.in-Ok-audit.verdict
      (g.W.Write.contents (device_of c.args.out.now)) (g.W.Write.contents (device_of c.write_verdict.new.out)) c.in-Err-write_verdict.fault
      c.in-Ok.ensures c.as_slice.ensures.value c.in-Ok-audit.ensures.verdict c.in-Err-write_verdict.ensures.bytes;
  failed = search rules;
}
