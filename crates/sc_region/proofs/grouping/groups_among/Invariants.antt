use Rattle.std.proofs.Common.{◌≡◌, length, take}
use Rattle.sc_papers.specs.Market.{schools_of}
use Rattle.sc_region.specs.Groups.{joined_students, students_at}
use Rattle.sc_region.proofs.grouping.groups_among.Given as goal

abbrev pub invariant-loop-position : goal.invariant-loop-position
invariant-loop-position l =
    (l.groups ≡ joined_students l.papers (students_at l.papers (take l.position-index l.positions))) × (length l.groups ≡ length (schools_of l.papers))
