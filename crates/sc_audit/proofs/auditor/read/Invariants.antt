use Rattle.sc_audit.specs.AuditState.{view_of}
use Rattle.sc_audit.proofs.Verdicts.{ReadUpTo}
use Rattle.sc_audit.proofs.auditor.read.Given as goal

abbrev pub invariant-loop-position : goal.invariant-loop-position
invariant-loop-position l = ReadUpTo l.papers l.log l.position (view_of l.state)
