use Rattle.std.proofs.Common.{◌≡◌, ◌<◌, ap, subst, length, take, arith}
use Rattle.std.proofs.lemmas.List.{length-take}
use Rattle.sc_report.proofs.Differences.{common-apart, common-end}
use Rattle.sc_report.proofs.comparing.alike_len.Goals as goal

pub returns-then-one-at : goal.returns-then-one-at
returns-then-one-at c =
    let low : c.loop-at.at < length c.args.one.now = omega (arith, c.loop-at-test.true, c.min-end.ensures) in
    let high : c.loop-at.at < length c.args.other.now = omega (arith, c.loop-at-test.true, c.min-end.ensures) in
    let first = common-apart c.loop-at.at c.args.one.now c.args.other.now low high c.loop-at.invariant c.if-one-at.true in
    record { len = omega (arith, ap length first, length-take c.loop-at.at c.args.one.now, low); first = first }

pub returns : goal.returns
returns c =
    let all : c.loop-at.at ≡ c.min-end.result = omega (arith, c.loop-at-test.false, c.loop-at.auto.at-end) in
    let first =
    common-end c.min-end.result c.args.one.now c.args.other.now (omega (arith, c.min-end.ensures)) (omega (arith, c.min-end.ensures)) (λ less more. omega (arith, less, more, c.min-end.ensures))
    (subst (λ at. take at c.args.one.now ≡ take at c.args.other.now) all c.loop-at.invariant) in
    record { len = omega (arith, ap length first, length-take c.min-end.result c.args.one.now, c.min-end.ensures); first = first }
