use Rattle.std.proofs.Common.{ap, is_some, sym, ◌∙◌, arith}
use Rattle.std.proofs.lemmas.List.{length-map}
use Rattle.sc_papers.specs.Market.{student_at, students_of}
use Rattle.sc_repair.specs.Rewinding.{lists}
use Rattle.sc_repair.proofs.Positions.{first-here, first-later, position-within}
use Rattle.sc_repair.proofs.Rewinding.{rank-lists}
use Rattle.sc_repair.proofs.rewind.first_to_list.Goals as goal

pub returns-then-is_some : goal.returns-then-is_some
returns-then-is_some c =
    first-here (lists c.args.papers.now c.args.school) (students_of c.args.papers.now) c.loop-position.position c.loop-position.invariant
    (sym (rank-lists c.args.papers.now c.args.school (student_at c.args.papers.now c.loop-position.position)) ∙ sym (c.is_some.ensures ∙ ap is_some c.choice_rank_at.ensures) ∙ c.if-is_some.true)

pub loop-position-preserved : goal.loop-position-preserved
loop-position-preserved c =
    first-later (lists c.args.papers.now c.args.school) (students_of c.args.papers.now) c.loop-position.position
    (omega (arith, length-map c.args.papers.now.students (λ e. e.0))) c.loop-position.invariant
    (sym (rank-lists c.args.papers.now c.args.school (student_at c.args.papers.now c.loop-position.position)) ∙ sym (c.is_some.ensures ∙ ap is_some c.choice_rank_at.ensures) ∙ c.if-is_some.false)

pub returns : goal.returns
returns c = omega (arith, c.loop-position.invariant, position-within (lists c.args.papers.now c.args.school) c.args.papers.now.students)
