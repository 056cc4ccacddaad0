use Rattle.std.proofs.Common.{◌≤◌, ◌<◌, ◌∙◌, ap, length, arith}
use Rattle.std.specs.Option.{option_map}
use Rattle.sc_papers.specs.Market.{students_of, student_at}
use Rattle.sc_audit.specs.AuditState.{view_of}
use Rattle.sc_audit.specs.declared.waiting.Waiting.{Waiting}
use Rattle.sc_audit.proofs.Lessers.{least-none, least-more}
use Rattle.sc_audit.proofs.Over.{least-over, least-within}
use Rattle.sc_audit.proofs.Pasts.{waiting_school}
use Rattle.sc_papers.proofs.Hands.{hand-there}
use Rattle.sc_audit.proofs.audit_state.AuditState.least_over.Goals as goal

pub loop-position-init : goal.loop-position-init
loop-position-init c = least-none (students_of c.args.papers.now) (waiting_school c.args.papers.now (view_of c.args.self.now))

pub loop-position-preserved : goal.loop-position-preserved
loop-position-preserved c =
    let m = c.args.papers.now in
    let k = c.loop-position.position in
    let low : k < length m.students = omega (arith, c.loop-position-test.true, c.students_len-position-end.ensures.count) in
    least-more (students_of m) (waiting_school m (view_of c.args.self.now)) k (student_at m k) c.loop-position.least c.school_of.result c.lesser-least.result (hand-there m k low)
    (c.school_of.ensures ∙ ap (option_map (λ (w : Waiting). w.school)) c.waiting_at.ensures) c.lesser-least.ensures c.loop-position.invariant

pub returns-clause-over : goal.returns-clause-over
returns-clause-over c =
    let all : length c.args.papers.now.students ≤ c.loop-position.position = omega (arith, c.loop-position-test.false, c.students_len-position-end.ensures.count) in
    least-over c.args.papers.now (view_of c.args.self.now) c.loop-position.position all c.requires c.loop-position.least c.loop-position.invariant

pub returns-clause-within : goal.returns-clause-within
returns-clause-within c =
    let all : length c.args.papers.now.students ≤ c.loop-position.position = omega (arith, c.loop-position-test.false, c.students_len-position-end.ensures.count) in
    least-within c.args.papers.now (view_of c.args.self.now) c.loop-position.position all c.requires c.loop-position.least c.loop-position.invariant
