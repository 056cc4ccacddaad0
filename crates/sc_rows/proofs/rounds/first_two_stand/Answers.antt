use Rattle.std.proofs.Common.{◌∙◌}
use Rattle.sc_papers.specs.Market.{students_of}
use Rattle.sc_engine.specs.Round.{view_of}
use Rattle.sc_engine.specs.RoundView.{SettlesFirst}
use Rattle.sc_rows.proofs.FirstTwo.{student-at, after-two}
use Rattle.sc_engine.proofs.Settling.{settles-none, settles-more, first-apart}
use Rattle.sc_rows.proofs.rounds.first_two_stand.Goals as goal

pub enter_one-requires-clause-student : goal.enter_one-requires-clause-student
enter_one-requires-clause-student g c ready = student-at c.args.papers.now 0 c.args.one c.requires.one

pub enter_one-requires-2-clause-student : goal.enter_one-requires-2-clause-student
enter_one-requires-2-clause-student g c ready = student-at c.args.papers.now 1 c.args.two c.requires.two

-- the first student has entered
first : (g : _) (c : goal.After-round-3-1 g) → SettlesFirst c.args.papers.now (view_of g.R.Roll.keys g.R.Roll.seats c.enter_one.new.self) 1
first g c =
    settles-more c.args.papers.now (view_of g.R.Roll.keys g.R.Roll.seats c.in_ok-round.round) (view_of g.R.Roll.keys g.R.Roll.seats c.enter_one.new.self) 0 c.args.one c.requires.one
    (settles-none c.args.papers.now (view_of g.R.Roll.keys g.R.Roll.seats c.in_ok-round.round) c.in_ok-round.ensures.fits c.in_ok-round.ensures.nobody c.in_ok-round.ensures.settled c.in_ok-round.ensures.log c.in_ok-round.ensures.proposals)
    c.in_ok-enter_one.ensures.enters

pub enter_one-requires-2-clause-absent : goal.enter_one-requires-2-clause-absent
enter_one-requires-2-clause-absent g c ready =
    (first g c).entered c.args.two ∙ first-apart (students_of c.args.papers.now) 1 c.args.two c.in_ok-round.ensures.fits.well_formed.students_differ c.requires.two

pub returns-clause-after : goal.returns-clause-after
returns-clause-after g c =
    let papers = c.args.papers.now in
    let start = view_of g.R.Roll.keys g.R.Roll.seats c.in_ok-round.round in
    let middle = view_of g.R.Roll.keys g.R.Roll.seats c.enter_one.new.self in
    let end = view_of g.R.Roll.keys g.R.Roll.seats c.enter_one-2.new.self in
    let both : SettlesFirst papers end 2 =
    settles-more papers middle end 1 c.args.two c.requires.two
    (settles-more papers start middle 0 c.args.one c.requires.one
    (settles-none papers start c.in_ok-round.ensures.fits c.in_ok-round.ensures.nobody c.in_ok-round.ensures.settled c.in_ok-round.ensures.log c.in_ok-round.ensures.proposals)
    c.in_ok-enter_one.ensures.enters)
    c.in_ok-enter_one-2.ensures.enters in (
      end.log,
      after-two papers end c.args.one c.args.two c.next_choice.result c.next_choice-2.result c.requires.one c.requires.two both
          (c.next_choice.ensures c.in_ok-enter_one-2.ensures.ready) (c.next_choice-2.ensures c.in_ok-enter_one-2.ensures.ready),
    )
