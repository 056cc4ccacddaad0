use Rattle.std.proofs.Common.{◌≡◌, Err, sym, ◌∙◌, ap, subst, rules}
use Rattle.sc_papers.specs.WellFormed.{WellFormed}
use Rattle.sc_report.specs.Watched.{device_of}
use Rattle.sc_steps.specs.TwoWriters.{GrowsByAll}
use Rattle.sc_steps.specs.Script.{after_script, answers, Writes}
use Rattle.sc_runs.proofs.LastReport.{WellFormed-after_script}
use Rattle.sc_runs.proofs.Replies.{WritesSession-answered, WritesSession-ended}
use Rattle.sc_runs.proofs.running.run_records.Goals as goal

pub settle_and_finish-requires : goal.settle_and_finish-requires
settle_and_finish-requires g c =
    let before = g.A.Amendable.stands c.args.amended in
    let later : g.A.Amendable.stands c.answer_all.new.self.amended ≡ after_script before c.args.records =
    c.in-Ok.ensures.papers ∙ ap (λ a. after_script (g.A.Amendable.stands a) c.args.records) c.new-session.ensures.amended in
    record { well_formed = subst (λ p. WellFormed p.papers) (sym later) (WellFormed-after_script before c.args.records c.requires.well_formed) }

pub returns-in-Ok : goal.returns-in-Ok
returns-in-Ok g c =
    let before = g.A.Amendable.stands c.args.amended in
    let later : g.A.Amendable.stands c.answer_all.new.self.amended ≡ after_script before c.args.records = c.in-Ok.ensures.papers ∙ ap (λ a. after_script (g.A.Amendable.stands a) c.args.records) c.new-session.ensures.amended in record {
      bytes = WritesSession-answered before (g.A.Amendable.stands c.answer_all.new.self.amended) c.args.records _ _ _ c.settle_and_finish.result later
          (subst (λ a. GrowsByAll (answers 1 (g.A.Amendable.stands a) c.args.records)
          (record { journal = g.J.Recorder.contents c.args.journal.now; output = g.W.Write.contents (device_of c.args.out.now) })
          (record { journal = g.J.Recorder.contents c.answer_all.new.journal; output = g.W.Write.contents (device_of c.answer_all.new.out) }))
          c.new-session.ensures.amended c.in-Ok.ensures.writes)
          c.settle_and_finish.ensures.bytes;
      failed = search rules;
      journal_failed = search rules;
    }

pub returns : goal.returns
returns g c = record {
  bytes = WritesSession-ended (g.A.Amendable.stands c.args.amended) c.args.records
      (record { journal = g.J.Recorder.contents c.args.journal.now; output = g.W.Write.contents (device_of c.args.out.now) })
      (record { journal = g.J.Recorder.contents c.answer_all.new.journal; output = g.W.Write.contents (device_of c.answer_all.new.out) })
      c.in-Err.fault c.requires.well_formed
      (subst (λ a. Writes {A = Unit {0}} (answers 1 (g.A.Amendable.stands a) c.args.records)
      (record { journal = g.J.Recorder.contents c.args.journal.now; output = g.W.Write.contents (device_of c.args.out.now) })
      (record { journal = g.J.Recorder.contents c.answer_all.new.journal; output = g.W.Write.contents (device_of c.answer_all.new.out) }) (Err c.in-Err.fault))
      c.new-session.ensures.amended c.in-Err.ensures.writes);
  failed = search rules;
  journal_failed = search rules;
}
