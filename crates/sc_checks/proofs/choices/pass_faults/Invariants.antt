use Rattle.std.proofs.Common.{◌≡◌, length}
use Rattle.sc_checks.proofs.choices.pass_faults.Given as goal

abbrev pub invariant-faults : goal.invariant-faults
invariant-faults l = l.sheet.good ≡ l.initial.sheet.good

abbrev pub decreases-faults : goal.decreases-faults
decreases-faults l = length l.sheet.faults
