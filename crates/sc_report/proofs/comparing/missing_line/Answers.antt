use Rattle.sc_report.proofs.Differences.{ends-early, ends-alike}
use Rattle.sc_report.proofs.comparing.missing_line.Goals as goal

pub returns-then-len-text : goal.returns-then-len-text
returns-then-len-text c = λ bytes left gave end.
    ends-early c.args.text.now c.args.len c.line_after.result bytes left c.if-len-text.true gave end c.line_after.ensures

pub returns-else-len-text : goal.returns-else-len-text
returns-else-len-text c = λ bytes left gave end. ends-alike c.args.text.now c.args.len bytes left c.if-len-text.false gave end
