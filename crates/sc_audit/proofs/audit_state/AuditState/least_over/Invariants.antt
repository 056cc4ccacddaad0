use Rattle.sc_papers.specs.Market.{students_of}
use Rattle.sc_audit.specs.Least.{LeastOf}
use Rattle.sc_audit.specs.AuditState.{view_of}
use Rattle.sc_audit.proofs.Pasts.{waiting_school}
use Rattle.sc_audit.proofs.audit_state.AuditState.least_over.Given as goal

abbrev pub invariant-loop-position : goal.invariant-loop-position
invariant-loop-position l = LeastOf (students_of l.papers) (waiting_school l.papers (view_of l.self)) l.position l.least
