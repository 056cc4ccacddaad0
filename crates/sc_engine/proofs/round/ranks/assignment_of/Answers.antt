use Rattle.std.proofs.Common.{cond, nat_eq, sym, ap, ◌∙◌}
use Rattle.sc_papers.specs.Assignment.{assigned}
use Rattle.sc_papers.proofs.Positions.{place-position}
use Rattle.sc_engine.proofs.Settling.{gives_more, gives_none}
use Rattle.sc_engine.proofs.round.ranks.assignment_of.Goals as goal

pub loop-position-preserved : goal.loop-position-preserved
loop-position-preserved c =
    gives_more c.args.papers.now c.args.ranks.now c.loop-position.assignment c.give.new.self c.loop-position.position c.in-Some.student (sym c.in-Some.ensures) c.loop-position.invariant
    (λ j.
    c.in_ok-give.ensures.given j
    ∙ ap (λ o. cond (nat_eq j c.in-Some.student) o (assigned c.loop-position.assignment j))
    (c.choice_at.ensures c.in-Some.student (place-position c.args.papers.now c.students_len-position-end.ensures.well_formed c.loop-position.position c.in-Some.student (sym c.in-Some.ensures))))

pub give-requires : goal.give-requires
give-requires c =
    gives_none c.args.papers.now c.args.ranks.now c.loop-position.assignment c.loop-position.position c.in-Some.student c.students_len-position-end.ensures.well_formed (sym c.in-Some.ensures) c.loop-position.invariant
