use Rattle.std.proofs.Common.{◌≡◌, map, take}
use Rattle.sc_papers.specs.Market.{students_of}
use Rattle.sc_audit.specs.AuditView.{next_of}
use Rattle.sc_audit.proofs.audit_state.AuditState.places.Given as goal

abbrev pub invariant-loop-position : goal.invariant-loop-position
invariant-loop-position l = l.places.items ≡ map (next_of l.papers l.self.stands.items) (take l.position (students_of l.papers))
