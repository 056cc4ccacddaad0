use Rattle.std.proofs.Common.{◌≡◌, length, take}
use Rattle.sc_papers.specs.Market.{schools_of}
use Rattle.sc_region.specs.Groups.{joined_list, position_of}
use Rattle.sc_region.proofs.grouping.join_list.Given as goal

abbrev pub invariant-loop-school : goal.invariant-loop-school
invariant-loop-school l =
    (l.groups.items ≡ joined_list l.papers l.fn.first l.initial.groups.items (take l.school-index l.list)) × (l.first_position ≡ position_of l.papers l.fn.first) × (length l.groups.items ≡ length (schools_of l.papers))
