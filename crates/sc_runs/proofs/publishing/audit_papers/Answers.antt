use Rattle.std.proofs.Common.{rules}
use Rattle.sc_intake.specs.Log.{log_in}
use Rattle.sc_intake.specs.declared.fault.Source.TheVariants as input
use Rattle.sc_report.specs.Watched.{device_of}
use Rattle.sc_steps.specs.Inputs.{turn_of}
use Rattle.sc_steps.proofs.Openings.{Keeps-refl}
use Rattle.sc_runs.proofs.Findings.{WritesFinding-ended, WritesFinding-failed, WritesFinding-written}
use Rattle.sc_runs.proofs.publishing.audit_papers.Goals as goal

pub returns-in-Err-find : goal.returns-in-Err-find
returns-in-Err-find g c =
    let out = g.W.Write.contents (device_of c.args.out.now) in
    let report = turn_of g.R.Read.remaining input.Report c.args.report.now c.find.new.report in record {
      bytes = WritesFinding-ended c.args.papers.now (log_in c.args.log.now) c.as_slice.result.now c.in-Ok.entries.items report out out c.in-Err-find.fault
          c.in-Ok.ensures c.as_slice.ensures.value c.in-Err-find.ensures.ended (Keeps-refl out);
      failed = search rules;
    }

pub returns-in-Ok-write_finding : goal.returns-in-Ok-write_finding
returns-in-Ok-write_finding g c =
    let report = turn_of g.R.Read.remaining input.Report c.args.report.now c.find.new.report in record {
      bytes = WritesFinding-written c.args.papers.now (log_in c.args.log.now) c.as_slice.result.now c.in-Ok.entries.items report c.in-Ok-find.finding
          (g.W.Write.contents (device_of c.args.out.now)) (g.W.Write.contents (device_of c.write_finding.new.out))
          c.in-Ok.ensures c.as_slice.ensures.value c.in-Ok-find.ensures.found c.in-Ok-write_finding.ensures.bytes;
      failed = search rules;
    }

pub returns : goal.returns
returns g c =
    let report = turn_of g.R.Read.remaining input.Report c.args.report.now c.find.new.report in record {
      bytes = WritesFinding-failed c.args.papers.now (log_in c.args.log.now) c.as_slice.result.now c.in-Ok.entries.items report c.in-Ok-find.finding
          (g.W.Write.contents (device_of c.args.out.now)) (g.W.Write.contents (device_of c.write_finding.new.out)) c.in-Err-write_finding.fault
          c.in-Ok.ensures c.as_slice.ensures.value c.in-Ok-find.ensures.found c.in-Err-write_finding.ensures.bytes;
      failed = search rules;
    }
