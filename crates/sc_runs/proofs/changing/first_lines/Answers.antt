use Rattle.std.proofs.Common.{refl, arith}
use Rattle.sc_runs.proofs.Changes.{first-lines}
use Rattle.sc_runs.proofs.changing.first_lines.Goals as goal

pub returns-then-left-eq0 : goal.returns-then-left-eq0
returns-then-left-eq0 c = first-lines c.args.text.now _ c.loop-index.index c.args.count c.loop-index-test.true c.if-text-index-eq10.true refl (omega arith)
