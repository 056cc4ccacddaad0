use Rattle.std.proofs.Common.{◌∙◌}
use Rattle.sc_notices.proofs.ChangeLemmas.{compared}
use Rattle.sc_notices.proofs.changes.change_parts.Goals as goal

pub returns : goal.returns
returns c m a are hold =
    compared m a c.args.before.now c.args.after.now.standing c.deref.result.now c.in_ok-students.students.items are hold
    (c.deref.ensures ∙ c.papers.ensures.papers)
    (c.in_ok-students.ensures m (c.as_slice.ensures.value ∙ c.in_ok-numbers.ensures ∙ are.numbers))
