use Rattle.std.proofs.Common.{◌≡◌, ◌++◌, drop, map, take}
use Rattle.sc_region.specs.Groups.{moved}
use Rattle.sc_region.proofs.grouping.renumber.Given as goal

abbrev pub invariant-loop-position : goal.invariant-loop-position
invariant-loop-position l =
    l.groups.items ≡ map (moved l.fn.kept l.fn.lost) (take l.position l.initial.groups.items) ++ drop l.position l.initial.groups.items
