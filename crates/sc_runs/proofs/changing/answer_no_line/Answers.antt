use Rattle.std.proofs.Common.{refl}
use Rattle.sc_steps.proofs.Openings.{Keeps-refl}
use Rattle.sc_runs.proofs.changing.answer_no_line.Goals as goal

pub returns-clause-change : goal.returns-clause-change
returns-clause-change c = λ bytes. (refl, c.requires, (c.in_ok-clearing_after.field-0.0.standing.papers, c.in_ok-clearing_after.field-0.1, c.in_ok-clearing_after.ensures.stands), Keeps-refl bytes)
