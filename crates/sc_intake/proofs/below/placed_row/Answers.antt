use Rattle.std.proofs.Common.{rules}
use Rattle.sc_intake.proofs.below.placed_row.Goals as goal

pub returns-clause-row : goal.returns-clause-row
returns-clause-row c row =
    let taken = c.in-Some.ensures.row c.args.records.now.by_lines row in
    search (rules, taken, c.go_on.ensures, c.in_ok-text.ensures)
