use Rattle.std.proofs.Common.{◌∙◌, sym}
use Rattle.sc_rows.proofs.FirstTwo.{student-at, third-apart}
use Rattle.sc_rows.proofs.rounds.resume_with_a_wrong_guess.Goals as goal

pub enter_near-requires-clause-student : goal.enter_near-requires-clause-student
enter_near-requires-clause-student g c ready = student-at c.args.papers.now 2 c.in-Some-Some-Some.three (sym c.in-Some-Some-Some.ensures'')

pub enter_near-requires-clause-absent : goal.enter_near-requires-clause-absent
enter_near-requires-clause-absent g c ready =
    c.in_ok-round.ensures.entered c.in-Some-Some-Some.three
    ∙ third-apart c.args.papers.now c.in_ok-next_choices.next_choices c.in-Some-Some-Some.one c.in-Some-Some-Some.two c.in-Some-Some-Some.three c.in_ok-round.ensures.fits.well_formed
    (sym c.in-Some-Some-Some.ensures) (sym c.in-Some-Some-Some.ensures') (sym c.in-Some-Some-Some.ensures'') c.in_ok-next_choices.ensures.students
