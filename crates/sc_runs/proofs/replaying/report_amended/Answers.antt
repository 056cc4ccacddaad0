use Rattle.std.proofs.Common.{refl, subst, Ok, Err, rules}
use Rattle.sc_report.specs.Watched.{device_of}
use Rattle.sc_steps.specs.Opening.{IsReport, WritesText}
use Rattle.sc_runs.proofs.ReportOrder.{writes-reordered}
use Rattle.sc_runs.proofs.replaying.report_amended.Goals as goal

pub returns-in-Ok : goal.returns-in-Ok
returns-in-Ok g c =
    let moved = c.into_reordered-papers.ensures in record {
      bytes = (
        moved,
        refl,
        writes-reordered c.into_reordered-papers.result c.args.amended.papers (rw c.deref.ensures at c.students_len.ensures.well_formed) moved
            (g.W.Write.contents (device_of c.args.out.now)) (g.W.Write.contents (device_of c.report_papers.new.out)) (Ok tt) (rw c.deref-2.ensures at c.in-Ok.ensures.bytes),
      );
      failed = search rules;
    }

pub returns-in-Err : goal.returns-in-Err
returns-in-Err g c =
    let old = g.W.Write.contents (device_of c.args.out.now) in
    let new = g.W.Write.contents (device_of c.report_papers.new.out) in record {
      bytes = writes-reordered c.into_reordered-papers.result c.args.amended.papers (rw c.deref.ensures at c.students_len.ensures.well_formed) c.into_reordered-papers.ensures
          old new (Err c.in-Err.fault) (subst (λ m. WritesText (IsReport m) old new (Err c.in-Err.fault)) c.deref-2.ensures c.in-Err.ensures.bytes);
      failed = search rules;
    }
