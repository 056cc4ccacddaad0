use Rattle.std.proofs.Common.{◌≡◌, ◌+◌, take}
use Rattle.sc_report.specs.Comparing.{line_ends}
use Rattle.sc_report.proofs.comparing.line_after.Given as goal

abbrev pub invariant-loop-at : goal.invariant-loop-at
invariant-loop-at l = l.line ≡ line_ends (take l.at l.text) + 1
