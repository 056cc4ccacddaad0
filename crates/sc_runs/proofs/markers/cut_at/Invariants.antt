-- What is left to find is what there is to find.
use Rattle.std.proofs.Common.{◌≡◌, ◌≤◌, ◌-◌, length, true}
use Rattle.sc_runs.specs.Markers.{cut_at}
use Rattle.sc_runs.proofs.Cutting.{parts_from}
use Rattle.sc_runs.proofs.markers.cut_at.Given as goal

abbrev pub invariant-places : goal.invariant-places
invariant-places l = record {
  within : l.start ≤ length l.bytes;
  left : parts_from l.marker l.bytes l.start ≡ cut_at l.marker true l.bytes;
}

abbrev pub decreases-places : goal.decreases-places
decreases-places l = length l.bytes - l.start
