use Rattle.std.proofs.Common.{refl, ap, subst, ◌∷◌, [], rules}
use Rattle.sc_repair.specs.Standing.{matching_of}
use Rattle.sc_report.specs.Text.{report_text}
use Rattle.sc_report.specs.Watched.{device_of}
use Rattle.sc_steps.specs.TwoWriters.{to_output}
use Rattle.sc_steps.proofs.TwoWriters.{GrowsByPrefix-nothing}
use Rattle.sc_runs.specs.Steps.{WritesLastReport}
use Rattle.sc_runs.proofs.LastReport.{IsReport-some}
use Rattle.sc_runs.proofs.running.settle_and_finish.Goals as goal

pub returns-in-Ok : goal.returns-in-Ok
returns-in-Ok g c =
    let standing = c.in-Ok.clearing.standing in record {
      bytes = subst (λ m. WritesLastReport m
          (record { journal = g.J.Recorder.contents c.args.journal.now; output = g.W.Write.contents (device_of c.args.out.now) })
          (record { journal = g.J.Recorder.contents c.finish.new.journal; output = g.W.Write.contents (device_of c.finish.new.out) }) c.finish.result)
          (ap (λ p. p.papers) c.in-Ok.ensures.papers)
          (report_text standing.papers (matching_of standing), (matching_of standing, c.in-Ok.ensures.certified.optimal, refl), c.finish.ensures.bytes);
      failed = search rules;
      journal_failed = search rules;
    }

pub returns-in-Err : goal.returns-in-Err
returns-in-Err g c =
    let (report, is) = IsReport-some (g.A.Amendable.stands c.args.amended).papers c.requires.well_formed in record {
      bytes = (report, is, GrowsByPrefix-nothing (to_output report ∷ []) (record { journal = g.J.Recorder.contents c.args.journal.now; output = g.W.Write.contents (device_of c.args.out.now) }));
      failed = search rules;
      journal_failed = search rules;
    }
