use Rattle.std.proofs.Common.{sym, ◌∙◌, Result, Ok, Err}
use Rattle.std.specs.Result.{OnOk}
use Rattle.sc_report.specs.Reply.{reply_text}
use Rattle.sc_steps.specs.Script.{answer_to}
use Rattle.sc_steps.proofs.Answering.{after_record-refused, answer_to-refused, WritersGet-reply}
use Rattle.sc_steps.proofs.script.Session.answer_amendment.Goals as goal

-- what is true is true where there is a value
on_ok-known : {T E P : Type 0} (r : Result T E) → P → OnOk r P
on_ok-known (Ok x) known = known
on_ok-known (Err e) known = tt

pub returns-in-Err-clause-papers : goal.returns-in-Err-clause-papers
returns-in-Err-clause-papers g c =
    on_ok-known c.write_reply.result (after_record-refused (g.A.Amendable.stands c.args.self.now.amended) c.args.stamped c.in-Err.refusal (sym c.in-Err.is ∙ c.check.ensures))

pub returns-in-Err-clause-writes : goal.returns-in-Err-clause-writes
returns-in-Err-clause-writes g c =
    let standing = g.A.Amendable.stands c.args.self.now.amended in
    WritersGet-reply g.J.Recorder.contents g.J.Recorder.has_failed c.args.journal.now g.W.Write.contents c.args.out.now c.write_reply.new.out
    (reply_text c.args.self.now.records (Err c.in-Err.refusal)) (answer_to c.args.self.now.records standing (Ok c.args.stamped)) c.write_reply.result
    (answer_to-refused c.args.self.now.records standing c.args.stamped c.in-Err.refusal (sym c.in-Err.is ∙ c.check.ensures)) c.write_reply.ensures
