use Rattle.std.proofs.Common.{◌≡◌, take}
use Rattle.std.specs.Prelude.{filter}
use Rattle.sc_papers.specs.Market.{students_of}
use Rattle.sc_region.specs.Groups.{is_member}
use Rattle.sc_region.proofs.reach.region_members.Given as goal

abbrev pub invariant-loop-position : goal.invariant-loop-position
invariant-loop-position l = l.members.items ≡ filter (is_member l.papers l.groups l.group) (take l.position (students_of l.papers))
