use Rattle.std.proofs.Common.{take}
use Rattle.sc_intake.proofs.TidyFields.{SchoolsBefore}
use Rattle.sc_intake.proofs.tidy_rows.take_schools.Given as goal

abbrev pub invariant-loop-count : goal.invariant-loop-count
invariant-loop-count l = SchoolsBefore l.text l.rest (take l.count l.schools)
