use Rattle.std.proofs.Common.{◌≡◌, ◌+◌, length}
use Rattle.sc_report.specs.Watched.{device_of, has_failed}
use Rattle.sc_steps.specs.Script.{after_script}
use Rattle.sc_steps.proofs.Answering.{Answered}
use Rattle.sc_steps.proofs.script.Session.answer_all.Given as goal

abbrev pub invariant-records : goal.invariant-records
invariant-records g l = record {
  papers : after_script (g.A.Amendable.stands l.initial.self.amended) l.initial.script ≡ after_script (g.A.Amendable.stands l.self.amended) l.script;
  answered : Answered
      (record { journal = g.J.Recorder.contents l.initial.journal; output = g.W.Write.contents (device_of l.initial.out) })
      (record { journal = g.J.Recorder.contents l.journal; output = g.W.Write.contents (device_of l.out) })
      (g.A.Amendable.stands l.initial.self.amended) l.initial.script l.self.records (g.A.Amendable.stands l.self.amended) l.script;
  count : l.self.records + length l.script ≡ length l.initial.script;
  failed : has_failed l.out ≡ has_failed l.initial.out;
  journal_failed : g.J.Recorder.has_failed l.journal ≡ g.J.Recorder.has_failed l.initial.journal;
}

abbrev pub decreases-records : goal.decreases-records
decreases-records g l = length l.script
