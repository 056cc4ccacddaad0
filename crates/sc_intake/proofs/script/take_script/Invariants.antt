use Rattle.std.proofs.Common.{◌≡◌, ◌++◌, length}
use Rattle.sc_intake.proofs.script.take_script.Given as goal

abbrev pub invariant-records : goal.invariant-records
invariant-records l = l.initial.script.items ++ l.initial.records ≡ l.script.items ++ l.records

abbrev pub decreases-records : goal.decreases-records
decreases-records l = length l.records
