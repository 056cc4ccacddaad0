use Rattle.std.proofs.Common.{◌≡◌, take}
use Rattle.std.specs.Prelude.{filter}
use Rattle.sc_papers.specs.Market.{student_at}
use Rattle.sc_region.specs.Groups.{is_member}
use Rattle.sc_region.proofs.candidates.positions_in.Given as goal

abbrev pub invariant-loop-position : goal.invariant-loop-position
invariant-loop-position l = l.positions.items ≡ filter (λ p. is_member l.papers l.groups l.group (student_at l.papers p)) (take l.position-index l.candidates)
