use Rattle.sc_intake.proofs.below.next_placed.Goals as goal

pub returns-in-Some-clause-row : goal.returns-in-Some-clause-row
returns-in-Some-clause-row c = c.in-Some.ensures.row c.args.row
