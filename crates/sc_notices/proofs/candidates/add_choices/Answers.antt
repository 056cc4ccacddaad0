use Rattle.std.proofs.Common.{arith, refl, sym}
use Rattle.sc_papers.specs.Market.{schools_of, student_at}
use Rattle.sc_papers.proofs.Positions.{position-at}
use Rattle.sc_notices.proofs.KeyListLemmas.{adds-choice, adds-none}
use Rattle.sc_notices.proofs.candidates.add_choices.Goals as goal

pub loop-rank-init : goal.loop-rank-init
loop-rank-init c = adds-none c.args.papers.now _ _ c.args.waiting.now (λ s at found. refl)

pub loop-rank-preserved : goal.loop-rank-preserved
loop-rank-preserved c =
    let m = c.args.papers.now in
    let i = student_at m c.args.student in
    let choice = c.in-Some.choice in
    let before = c.loop-rank.invariant in
    adds-choice m c.students_len.ensures.well_formed i c.loop-rank.rank choice.school choice.position choice.key c.args.waiting.now c.loop-rank.waiting c.add.new.self
    (sym c.in-Some.ensures.school) before c.in-Some.ensures.position c.in-Some.ensures.key
    (omega (arith, (position-at (schools_of m) choice.school choice.position c.in-Some.ensures.position).0, before.one_each, c.requires.takes.one_each))
    c.in_ok-add.ensures
