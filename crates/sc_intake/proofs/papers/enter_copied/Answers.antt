use Rattle.std.proofs.Common.{◌≡◌, Some, rules}
use Rattle.std.specs.Option.{option_copied}
use Rattle.sc_intake.specs.Papers.{amended}
use Rattle.sc_papers.specs.declared.amendment.Amendment.TheVariants.{Enter}
use Rattle.sc_intake.proofs.JudgedParts.{amended-part}
use Rattle.sc_intake.proofs.papers.enter_copied.Goals as goal

pub returns-clause-entered : goal.returns-clause-entered
returns-clause-entered c =
    let papers = c.args.papers.now in
    let row = c.args.row.now in
    let choices = c.in-Some.list.now.choices in
    let part = c.in_ok-row.row in
    let given : option_copied c.args.list ≡ Some c.in-Some.list.now = search rules in
    let same : amended papers (Enter part.student part.zone part.siblings c.in_ok-choices.choices part.continuing)
    ≡ amended papers (Enter row.student row.zone row.siblings choices row.continuing) =
    rw (c.in_ok-row.ensures, c.in_ok-choices.ensures) (amended-part papers row.student row.zone row.siblings choices row.continuing) in
    rw given (rw same at c.enter.ensures.entered)
