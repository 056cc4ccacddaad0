use Rattle.std.proofs.Common.{◌≡◌, [], map, All}
use Rattle.sc_audit.specs.BestKeys.{BestView}
use Rattle.sc_audit.proofs.Openings.{SeatsUpTo}
use Rattle.sc_audit.proofs.audit_state.no_keys.Given as goal

abbrev pub invariant-loop-position : goal.invariant-loop-position
invariant-loop-position l =
    SeatsUpTo l.papers l.position (map (λ (best : BestView). best.seats) l.schools.items) × All (λ (best : BestView). best.keys ≡ []) l.schools.items
