use Rattle.std.proofs.Common.{◌≡◌, take}
use Rattle.sc_report.specs.LogText.{log_text}
use Rattle.sc_report.proofs.log.log_text.Given as goal

abbrev pub invariant-loop-entry : goal.invariant-loop-entry
invariant-loop-entry l = l.text.items ≡ log_text (take l.entry-index l.log)
