use Rattle.std.proofs.Common.{◌≤◌, ◌∙◌, sym, length, arith}
use Rattle.sc_audit.proofs.Listing.{listed-none, listed-more, listed-all, unlisted}
use Rattle.sc_audit.proofs.membership.is_matching.Goals as goal

pub loop-position-init : goal.loop-position-init
loop-position-init c = listed-none c.args.papers.now c.args.assignment.now

pub returns-then-not-lists-clause-fault : goal.returns-then-not-lists-clause-fault
returns-then-not-lists-clause-fault c =
    unlisted c.args.papers.now c.args.assignment.now c.loop-position.position c.in-Some.pair.0 c.in-Some.pair.1 c.len-position-end.ensures.students_differ (sym c.in-Some.ensures) (sym c.lists.ensures ∙ c.if-not-lists.true)

pub loop-position-preserved : goal.loop-position-preserved
loop-position-preserved c =
    listed-more c.args.papers.now c.args.assignment.now c.loop-position.position c.in-Some.pair.0 c.in-Some.pair.1 (sym c.in-Some.ensures) (sym c.lists.ensures ∙ c.if-not-lists.false) c.loop-position.invariant

pub returns-clause-matching : goal.returns-clause-matching
returns-clause-matching c =
    let all : length c.args.assignment.now ≤ c.loop-position.position = omega (arith, c.loop-position-test.false, c.len-position-end.ensures.count) in
    listed-all c.args.papers.now c.args.assignment.now c.loop-position.position all c.loop-position.invariant
