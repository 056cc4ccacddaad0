use Rattle.std.proofs.Common.{◌≤◌, ℕ, sym, subst, length, IfSome, arith}
use Rattle.std.specs.Prelude.{IfNone}
use Rattle.sc_papers.specs.Assignment.{assigned}
use Rattle.sc_papers.specs.Matching.{Blocks}
use Rattle.sc_audit.specs.Stability.{IsEarliestBlock}
use Rattle.sc_audit.proofs.Blocking.{first-none, first-more, first-is_block, first-is_none}
use Rattle.sc_papers.proofs.Hands.{hand-is}
use Rattle.sc_audit.proofs.blocks.first_block.Goals as goal

pub loop-position-init : goal.loop-position-init
loop-position-init c = first-none c.args.papers.now (assigned c.args.assignment.now)

pub loop-position-preserved : goal.loop-position-preserved
loop-position-preserved c =
    let m = c.args.papers.now in
    let a = assigned c.args.assignment.now in
    let block = c.earliest_block-block.result in
    let same = hand-is m c.loop-position.position c.in-Some.student (sym c.in-Some.ensures) in
    first-more m a c.loop-position.position c.in-Some.student c.loop-position.first c.earlier-first.result block (sym c.in-Some.ensures)
    (subst (λ i. IfSome block (IsEarliestBlock m a i)) same c.earliest_block-block.ensures.block)
    (subst (λ i. IfNone block ((t : ℕ) → Blocks m a i t → ⊥)) same c.earliest_block-block.ensures.none)
    c.earlier-first.ensures c.loop-position.invariant

pub returns-clause-block : goal.returns-clause-block
returns-clause-block c =
    let all : length c.args.papers.now.students ≤ c.loop-position.position = omega (arith, c.loop-position-test.false, c.students_len-position-end.ensures.count) in
    first-is_block c.args.papers.now (assigned c.args.assignment.now) c.loop-position.position all c.loop-position.first c.loop-position.invariant

pub returns-clause-none : goal.returns-clause-none
returns-clause-none c =
    let all : length c.args.papers.now.students ≤ c.loop-position.position = omega (arith, c.loop-position-test.false, c.students_len-position-end.ensures.count) in
    first-is_none c.args.papers.now (assigned c.args.assignment.now) c.loop-position.position all c.loop-position.first c.loop-position.invariant
