use Rattle.std.proofs.Common.{◌≡◌, filter}
use Rattle.std.specs.List.{range_with_len}
use Rattle.sc_papers.specs.Market.{student_at}
use Rattle.sc_region.specs.Groups.{is_member}
use Rattle.sc_region.proofs.members.positions_of.Given as goal

abbrev pub invariant-loop-position : goal.invariant-loop-position
invariant-loop-position l =
    l.positions.items ≡ filter (λ p. is_member l.papers l.groups l.group (student_at l.papers p)) (range_with_len 0 l.position)
