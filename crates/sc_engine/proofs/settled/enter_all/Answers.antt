use Rattle.std.proofs.Common.{◌≡◌, [], arith, length, subst, sym, ◌∙◌}
use Rattle.sc_papers.specs.{Market.{students_of}, Restriction.{cut}}
use Rattle.sc_papers.proofs.Choices.{contains-at}
use Rattle.sc_papers.proofs.Positions.{among-student}
use Rattle.sc_engine.specs.{InOrder.{IsInOrder}, Round.{view_of}}
use Rattle.sc_engine.proofs.Settling.{settles-more, settles-none, first-apart}
use Rattle.sc_engine.proofs.InOrder.{in-order-all, in-order-more, none-segmented}
use Rattle.sc_engine.proofs.settled.enter_all.Goals as goal

pub loop-position-init : goal.loop-position-init
loop-position-init g c = (
  settles-none c.args.papers.now (view_of g.R.Roll.keys g.R.Roll.seats c.args.round.now) c.requires.fits c.requires.nobody c.requires.settled c.requires.log c.requires.proposals,
  c.requires.ready,
  ([], none-segmented c.args.papers.now, sym c.requires.log),
)

pub enter_one-requires-clause-student : goal.enter_one-requires-clause-student
enter_one-requires-clause-student g c = λ ready. among-student c.args.papers.now c.in-Some.student (contains-at (students_of c.args.papers.now) c.loop-position.position c.in-Some.student (sym c.in-Some.ensures))

pub enter_one-requires-clause-absent : goal.enter_one-requires-clause-absent
enter_one-requires-clause-absent g c = λ ready.
    c.loop-position.invariant.0.entered c.in-Some.student ∙ first-apart (students_of c.args.papers.now) c.loop-position.position c.in-Some.student c.loop-position.invariant.0.fits.well_formed.students_differ (sym c.in-Some.ensures)

pub loop-position-preserved : goal.loop-position-preserved
loop-position-preserved g c = (
  settles-more c.args.papers.now _ _ c.loop-position.position c.in-Some.student (sym c.in-Some.ensures) c.loop-position.invariant.0 c.in_ok-enter_one.ensures.enters,
  c.in_ok-enter_one.ensures.ready,
  in-order-more c.args.papers.now _ _ c.loop-position.position c.in-Some.student (sym c.in-Some.ensures) c.loop-position.invariant.0 c.in_ok-enter_one.ensures.enters c.loop-position.invariant.2,
)

pub returns-clause-in_order : goal.returns-clause-in_order
returns-clause-in_order g c =
    let at : c.loop-position.position ≡ length c.args.papers.now.students = omega (arith, c.loop-position.auto.position-end, c.loop-position-test.false, c.students_len-position-end.ensures.count) in
    in-order-all c.args.papers.now _ (subst (λ k. IsInOrder (cut c.args.papers.now k) (view_of g.R.Roll.keys g.R.Roll.seats c.loop-position.round).log) at c.loop-position.invariant.2)
