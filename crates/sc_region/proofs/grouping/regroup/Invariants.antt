use Rattle.std.proofs.Common.{◌≡◌, ◌<◌, ◌≤◌, ◌==◌, ℕ, length}
use Rattle.std.specs.Prelude.{slice_index, if◌then◌else◌}
use Rattle.sc_region.proofs.grouping.regroup.Given as goal

abbrev pub invariant-loop-position : goal.invariant-loop-position
invariant-loop-position l =
    (length l.groups.items ≡ length l.initial.groups.items)
    × ((p : ℕ) → p < l.position → slice_index l.groups.items p ≡ (if slice_index l.initial.groups.items p == l.group then slice_index l.others p else slice_index l.initial.groups.items p))
    × ((p : ℕ) → l.position ≤ p → slice_index l.groups.items p ≡ slice_index l.initial.groups.items p)
