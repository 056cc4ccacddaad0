use Rattle.std.proofs.Common.{◌≡◌, length, take}
use Rattle.sc_papers.specs.Market.{schools_of, students_of}
use Rattle.sc_region.specs.Groups.{joined_students}
use Rattle.sc_region.proofs.grouping.groups_of.Given as goal

abbrev pub invariant-loop-position : goal.invariant-loop-position
invariant-loop-position l =
    (l.groups ≡ joined_students l.papers (take l.position (students_of l.papers))) × (length l.groups ≡ length (schools_of l.papers))
