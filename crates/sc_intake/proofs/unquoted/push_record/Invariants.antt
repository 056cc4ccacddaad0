use Rattle.std.proofs.Common.{take}
use Rattle.sc_intake.proofs.Unquoting.{AddsFields}
use Rattle.sc_intake.proofs.unquoted.push_record.Given as goal

abbrev pub invariant-fields : goal.invariant-fields
invariant-fields l = AddsFields l.initial.text.items l.text.items (take l.index l.records.current)
