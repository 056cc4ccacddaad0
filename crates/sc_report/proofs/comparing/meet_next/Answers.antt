use Rattle.std.proofs.Common.{◌<◌, ◌+◌, arith}
use Rattle.sc_report.specs.Watched.{device_of}
use Rattle.sc_report.proofs.Differences.{meets-differs, meets-len, meets-more}
use Rattle.sc_report.proofs.comparing.meet_next.Goals as goal

pub returns-then-met-clause-met : goal.returns-then-met-clause-met
returns-then-met-clause-met g c = λ bytes before.
    meets-differs c.args.text.now c.args.len c.line_after.result bytes (g.R.Read.remaining (device_of c.args.from.now)) (g.R.Read.remaining (device_of c.meet_piece.new.from)) c.in_ok-met.met
    before c.in_ok-met.ensures.met c.if-met.true c.line_after.ensures

pub returns-then-met-eq0-clause-met : goal.returns-then-met-eq0-clause-met
returns-then-met-eq0-clause-met g c = λ bytes before.
    c.missing_line.ensures bytes (g.R.Read.remaining (device_of c.meet_piece.new.from))
    (meets-more c.args.text.now c.args.len bytes (g.R.Read.remaining (device_of c.args.from.now)) (g.R.Read.remaining (device_of c.meet_piece.new.from)) c.in_ok-met.met
    before c.in_ok-met.ensures.met c.if-met.false)
    (c.in_ok-met.ensures.end c.if-met-eq0.true c.requires.room)

pub returns-clause-met : goal.returns-clause-met
returns-clause-met g c = λ bytes before.
    let old = g.R.Read.remaining (device_of c.args.from.now) in
    let new = g.R.Read.remaining (device_of c.meet_piece.new.from) in
    let more : c.args.len < c.args.len + c.in_ok-met.met.alike = omega (arith, c.if-met.false, c.if-met-eq0.false) in (
      more,
      meets-len c.args.text.now c.args.len old new c.in_ok-met.met c.requires.within c.in_ok-met.ensures.met,
      meets-more c.args.text.now c.args.len bytes old new c.in_ok-met.met before c.in_ok-met.ensures.met c.if-met.false,
    )
