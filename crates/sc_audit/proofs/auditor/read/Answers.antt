use Rattle.std.proofs.Common.{◌+◌, refl, subst, take}
use Rattle.sc_audit.specs.AuditState.{view_of}
use Rattle.sc_audit.specs.AuditView.{Finds}
use Rattle.sc_audit.proofs.Verdicts.{read-none, read-more, bad-line, read-all, over-log, settled-log}
use Rattle.sc_audit.proofs.auditor.read.Goals as goal

pub loop-position-init : goal.loop-position-init
loop-position-init c = read-none c.args.papers.now c.args.log.now (view_of c.args.state.now) c.requires

pub take-requires : goal.take-requires
take-requires c = record { keeps_best = c.loop-position.invariant.follows.keeps_best }

pub returns-then-not-branch-clause-verdict : goal.returns-then-not-branch-clause-verdict
returns-then-not-branch-clause-verdict c =
    bad-line c.args.papers.now c.args.log.now c.loop-position.position (c.loop-position.position + 1) (view_of c.loop-position.state) (view_of c.take.new.self) c.index-log-position.result c.loop-position-test.true c.index-log-position.is refl c.loop-position.invariant
    (subst (λ valid. Finds c.args.papers.now (take c.loop-position.position c.args.log.now) c.index-log-position.result valid (view_of c.take.new.self)) c.if-not-branch.true
    (c.in_ok-take.ensures (take c.loop-position.position c.args.log.now) c.loop-position.invariant.valid c.loop-position.invariant.follows))

pub loop-position-preserved : goal.loop-position-preserved
loop-position-preserved c =
    read-more c.args.papers.now c.args.log.now c.loop-position.position (view_of c.loop-position.state) (view_of c.take.new.self) c.index-log-position.result c.loop-position-test.true c.index-log-position.is c.loop-position.invariant
    (subst (λ valid. Finds c.args.papers.now (take c.loop-position.position c.args.log.now) c.index-log-position.result valid (view_of c.take.new.self)) c.if-not-branch.false
    (c.in_ok-take.ensures (take c.loop-position.position c.args.log.now) c.loop-position.invariant.valid c.loop-position.invariant.follows))

pub least_over-requires : goal.least_over-requires
least_over-requires c = c.loop-position.invariant.follows.keeps_best

pub returns-in-Some-clause-verdict : goal.returns-in-Some-clause-verdict
returns-in-Some-clause-verdict c =
    let (valid, follows) = read-all c.args.papers.now c.args.log.now c.loop-position.position (view_of c.loop-position.state) c.loop-position-test.false c.loop-position.invariant in
    (valid, over-log c.args.papers.now c.args.log.now (view_of c.loop-position.state) c.in-Some.school follows c.in-Some.ensures.over)

pub returns-in-None-clause-verdict : goal.returns-in-None-clause-verdict
returns-in-None-clause-verdict c =
    let (valid, follows) = read-all c.args.papers.now c.args.log.now c.loop-position.position (view_of c.loop-position.state) c.loop-position-test.false c.loop-position.invariant in
    settled-log c.args.papers.now c.args.log.now (view_of c.loop-position.state) valid follows c.in-None.ensures.within

pub returns-in-None-clause-follows : goal.returns-in-None-clause-follows
returns-in-None-clause-follows c = λ certified.
    (read-all c.args.papers.now c.args.log.now c.loop-position.position (view_of c.loop-position.state) c.loop-position-test.false c.loop-position.invariant).1
