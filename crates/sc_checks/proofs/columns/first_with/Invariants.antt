use Rattle.std.proofs.Common.{◌≡◌, [], drop}
use Rattle.sc_intake.specs.Plain.{fields_from}
use Rattle.sc_checks.specs.Columns.{first_with}
use Rattle.sc_checks.proofs.columns.first_with.Given as goal

abbrev pub invariant-loop-index : goal.invariant-loop-index
invariant-loop-index l = first_with l.cause (fields_from [] l.line) 0 l.columns ≡ first_with l.cause (fields_from [] l.line) l.index (drop l.index l.columns)
