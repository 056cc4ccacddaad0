-- What the auditor keeps, as its functions see it.
use Rattle.std.specs.Prelude.{map}
use Rattle.sc_audit.specs.AuditView.{AuditView}
use Rattle.sc_audit.specs.BestKeys.{BestView}
use Rattle.sc_audit.specs.declared.audit_state.AuditState.{AuditState}

abbrev pub view_of : AuditState → AuditView
view_of b = record {
  stands = b.stands.items;
  kept = map (λ (best : BestView). best.keys) b.schools.items;
  seats = map (λ (best : BestView). best.seats) b.schools.items;
}
