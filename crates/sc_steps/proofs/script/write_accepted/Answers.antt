use Rattle.std.proofs.Common.{◌≡◌, refl, sym, ap, ◌||◌, ◌∙◌, ◌∷◌, [], Ok}
use Rattle.sc_report.specs.Reply.{reply_text}
use Rattle.sc_report.specs.Watched.{device_of}
use Rattle.sc_steps.specs.TwoWriters.{to_output}
use Rattle.sc_steps.proofs.Answering.{WritersGet-reply}
use Rattle.sc_steps.proofs.TwoWriters.{is_journal_fault-text, Writes-after}
use Rattle.sc_steps.proofs.script.write_accepted.Goals as goal

pub returns-in-Ok : goal.returns-in-Ok
returns-in-Ok g c =
    let reply = reply_text c.args.number (Ok tt) in
    let replied = WritersGet-reply g.J.Recorder.contents g.J.Recorder.has_failed c.write_line.new.self g.W.Write.contents c.args.out.now c.write_reply.new.out reply (to_output reply ∷ []) c.write_reply.result refl c.write_reply.ensures in
    record {
      bytes = Writes-after c.args.line.now (to_output reply ∷ [])
          (g.J.Recorder.contents c.args.journal.now) (g.J.Recorder.contents c.write_line.new.self)
          (g.W.Write.contents (device_of c.args.out.now)) (g.W.Write.contents (device_of c.write_reply.new.out))
          c.write_reply.result c.in-Ok.ensures.bytes replied.bytes;
      failed = replied.failed;
      journal_failed = c.in-Ok.ensures.failed
          ∙ ap (λ more. g.J.Recorder.has_failed c.args.journal.now || more) (sym (is_journal_fault-text (λ text. text ≡ reply) _ _ c.write_reply.result c.write_reply.ensures.bytes));
    }
