use Rattle.sc_papers.specs.declared.amendment.Amendment.TheVariants.{Enter}
use Rattle.sc_intake.proofs.PaperLemmas.{amended-refused}
use Rattle.sc_intake.proofs.papers.enter.Goals as goal

pub returns-in-Err-clause-entered : goal.returns-in-Err-clause-entered
returns-in-Err-clause-entered c =
    let row = c.args.row in
    rw c.cause_of.ensures (amended-refused c.args.papers.now (Enter row.student row.zone row.siblings c.args.choices row.continuing) c.in-Err.refusal c.in-Err.ensures.refused)
