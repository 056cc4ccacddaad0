use Rattle.std.proofs.Common.{sym, ap, Err}
use Rattle.sc_report.specs.Reply.{reply_text}
use Rattle.sc_steps.specs.Script.{answer_to}
use Rattle.sc_steps.proofs.Answering.{WritersGet-reply}
use Rattle.sc_steps.proofs.script.Session.answer.Goals as goal

pub returns-in-Err-clause-writes : goal.returns-in-Err-clause-writes
returns-in-Err-clause-writes g c =
    let standing = g.A.Amendable.stands c.args.self.now.amended in
    WritersGet-reply g.J.Recorder.contents g.J.Recorder.has_failed c.args.journal.now g.W.Write.contents c.args.out.now c.write_reply.new.out
    (reply_text c.args.self.now.records (Err c.in-Err.refusal)) (answer_to c.args.self.now.records standing c.args.entry) c.write_reply.result
    (ap (answer_to c.args.self.now.records standing) (sym c.in-Err.is)) c.write_reply.ensures
