use Rattle.std.proofs.Common.{◌≡◌, take}
use Rattle.sc_report.proofs.comparing.alike_len.Given as goal

abbrev pub invariant-loop-at : goal.invariant-loop-at
invariant-loop-at l = take l.at l.one ≡ take l.at l.other
