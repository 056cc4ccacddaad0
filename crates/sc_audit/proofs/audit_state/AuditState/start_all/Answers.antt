use Rattle.std.proofs.Common.{◌≤◌, length, arith}
use Rattle.sc_audit.specs.AuditState.{view_of}
use Rattle.sc_papers.specs.Market.{student_at}
use Rattle.sc_audit.proofs.Openings.{opened-none, opened-nowhere, opened-more, opened-all}
use Rattle.sc_papers.proofs.Hands.{hand-there}
use Rattle.sc_audit.proofs.audit_state.AuditState.start_all.Goals as goal

pub loop-position-init : goal.loop-position-init
loop-position-init c = opened-none c.args.papers.now (view_of c.args.self.now) c.requires.keeps_best c.requires.nowhere

pub move_to-requires-clause-here : goal.move_to-requires-clause-here
move_to-requires-clause-here c = record {
  keeps_best = c.loop-position.invariant.keeps_best;
  within = omega (arith, c.loop-position-test.true, c.students_len-position-end.ensures.count);
}

pub move_to-requires-clause-nowhere : goal.move_to-requires-clause-nowhere
move_to-requires-clause-nowhere c =
    let k = c.loop-position.position in
    opened-nowhere c.args.papers.now (view_of c.loop-position.self) k (student_at c.args.papers.now k) c.loop-position.invariant
    (hand-there c.args.papers.now k (omega (arith, c.loop-position-test.true, c.students_len-position-end.ensures.count)))

pub loop-position-preserved : goal.loop-position-preserved
loop-position-preserved c =
    let k = c.loop-position.position in
    opened-more c.args.papers.now (view_of c.loop-position.self) (view_of c.move_to.new.self) k (student_at c.args.papers.now k) c.loop-position.invariant
    (hand-there c.args.papers.now k (omega (arith, c.loop-position-test.true, c.students_len-position-end.ensures.count))) c.in_ok-move_to.ensures

pub returns : goal.returns
returns c =
    let all : length c.args.papers.now.students ≤ c.loop-position.position = omega (arith, c.loop-position-test.false, c.students_len-position-end.ensures.count) in
    opened-all c.args.papers.now (view_of c.loop-position.self) c.loop-position.position all c.loop-position.invariant
