use Rattle.std.proofs.Common.{◌≡◌, ◌+◌, ◌-◌, sym, subst, arith}
use Rattle.sc_papers.specs.Market.{students_of}
use Rattle.sc_papers.proofs.Choices.{contains-at}
use Rattle.sc_engine.specs.Round.{view_of, is_spent}
use Rattle.sc_papers.proofs.Positions.{among-student}
use Rattle.sc_rows.proofs.Backwards.{EnteredFrom, absent-before, entered-before}
use Rattle.sc_rows.proofs.rounds.settle_backwards.Goals as goal

pub enter_one-requires-clause-student : goal.enter_one-requires-clause-student
enter_one-requires-clause-student g c ready = among-student c.args.papers.now c.in-Some.student (contains-at (students_of c.args.papers.now) (c.loop-left.left - 1) c.in-Some.student (sym c.in-Some.ensures))

pub enter_one-requires-clause-absent : goal.enter_one-requires-clause-absent
enter_one-requires-clause-absent g c ready =
    let at : c.loop-left.left ≡ (c.loop-left.left - 1) + 1 = omega arith in
    absent-before c.args.papers.now (view_of g.R.Roll.keys g.R.Roll.seats c.loop-left.round) (is_spent c.loop-left.round) (c.loop-left.left - 1) c.in-Some.student (sym c.in-Some.ensures)
    (subst (EnteredFrom c.args.papers.now (view_of g.R.Roll.keys g.R.Roll.seats c.loop-left.round) (is_spent c.loop-left.round)) at c.loop-left.invariant)

pub loop-left-preserved : goal.loop-left-preserved
loop-left-preserved g c =
    let at : c.loop-left.left ≡ (c.loop-left.left - 1) + 1 = omega arith in
    entered-before c.args.papers.now (view_of g.R.Roll.keys g.R.Roll.seats c.loop-left.round) (view_of g.R.Roll.keys g.R.Roll.seats c.enter_one.new.self) (is_spent c.loop-left.round) (is_spent c.enter_one.new.self) (c.loop-left.left - 1) c.in-Some.student (sym c.in-Some.ensures)
    (subst (EnteredFrom c.args.papers.now (view_of g.R.Roll.keys g.R.Roll.seats c.loop-left.round) (is_spent c.loop-left.round)) at c.loop-left.invariant)
    c.in_ok-enter_one.ensures.enters c.in_ok-enter_one.ensures.ready
