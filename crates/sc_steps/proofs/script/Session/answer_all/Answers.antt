use Rattle.std.proofs.Common.{refl, sym, ◌∙◌, ap, arith, length}
use Rattle.sc_steps.specs.Script.{after_script}
use Rattle.sc_steps.proofs.Answering.{or-nothing, answered-failed, answered-first, answered-next, answered-taken, answered-unread}
use Rattle.sc_steps.proofs.script.Session.answer_all.Goals as goal

pub records-init : goal.records-init
records-init g c =
    record {
      papers = refl;
      answered = answered-first _ _ _ _ c.requires.records;
      count = omega (arith, c.requires.records);
      failed = refl;
      journal_failed = refl;
    }

pub returns-in-Err-clause-writes : goal.returns-in-Err-clause-writes
returns-in-Err-clause-writes g c =
    let at = c.records in
    answered-unread _ _ _ _ at.self.records (g.A.Amendable.stands at.self.amended) _ at.invariant.answered

pub records-preserved : goal.records-preserved
records-preserved g c =
    let at = c.records in
    let steps = answered-taken c.in-Ok-Some.field-0 c.in-Ok-Some.entry at.script c.next_record.new.self c.in-Ok-Some.field-0-is c.in-Ok-Some.ensures.next in
    let short = ap length steps in
    let counted = at.invariant.count in
    let next = c.in_default.ensures.records in record {
      papers = at.invariant.papers ∙ ap (after_script (g.A.Amendable.stands at.self.amended)) steps ∙ ap (λ p. after_script p c.next_record.new.self) (sym c.in_default.ensures.papers);
      answered = answered-next _ _ _ _ _ at.self.records _ (g.A.Amendable.stands at.self.amended) _ c.in-Ok-Some.entry _ _ at.invariant.answered steps c.in_default.ensures.records c.in_default.ensures.papers c.in_default.ensures.writes.bytes;
      count = omega arith;
      failed = c.in_default.ensures.writes.failed ∙ sym (or-nothing _ _ refl) ∙ at.invariant.failed;
      journal_failed = c.in_default.ensures.writes.journal_failed ∙ sym (or-nothing _ _ refl) ∙ at.invariant.journal_failed;
    }

pub returns-in-Err-answer-clause-writes : goal.returns-in-Err-answer-clause-writes
returns-in-Err-answer-clause-writes g c =
    let at = c.records in
    let steps = answered-taken c.in-Ok-Some.field-0 c.in-Ok-Some.entry at.script c.next_record.new.self c.in-Ok-Some.field-0-is c.in-Ok-Some.ensures.next in
    answered-failed _ _ _ _ _ _ at.self.records (g.A.Amendable.stands at.self.amended) c.in-Ok-Some.entry _ _ c.in-Err-answer.fault at.invariant.answered steps refl c.in-Err-answer.ensures.writes.bytes
