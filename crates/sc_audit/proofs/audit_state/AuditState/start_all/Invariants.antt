use Rattle.sc_audit.specs.AuditState.{view_of}
use Rattle.sc_audit.proofs.Openings.{Opened}
use Rattle.sc_audit.proofs.audit_state.AuditState.start_all.Given as goal

abbrev pub invariant-loop-position : goal.invariant-loop-position
invariant-loop-position l = Opened l.papers (view_of l.self) l.position
