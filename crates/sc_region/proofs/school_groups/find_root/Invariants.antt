use Rattle.std.proofs.Common.{◌≡◌, ◌<◌, length}
use Rattle.sc_region.specs.Roots.{root_of, KeepsRoots}
use Rattle.sc_region.proofs.school_groups.find_root.Given as goal

abbrev pub invariant-climb : goal.invariant-climb
invariant-climb l =
    KeepsRoots l.initial.parents.items l.parents.items × (l.at < length l.parents.items) × (root_of l.initial.parents.items l.at ≡ root_of l.initial.parents.items l.initial.at)

abbrev pub decreases-climb : goal.decreases-climb
decreases-climb l = l.at
