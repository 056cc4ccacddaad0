use Rattle.std.proofs.Common.{◌<◌, ◌-◌, ℕ, Contains}
use Rattle.sc_region.proofs.candidates.spread_positions.Given as goal

abbrev pub invariant-step : goal.invariant-step
invariant-step l = (p : ℕ) → Contains l.positions.items p → p < l.students

abbrev pub decreases-step : goal.decreases-step
decreases-step l = l.students - l.position
