use Rattle.std.proofs.Common.{◌≡◌, ◌<◌, ℕ, length, Contains}
use Rattle.sc_papers.specs.Market.{schools_of, student_at}
use Rattle.sc_region.specs.Districts.{firsts_at, lists_in}
use Rattle.sc_region.specs.Groups.{first_choice, position_of}
use Rattle.sc_region.proofs.districts.firsts_of.Given as goal

abbrev pub invariant-loop-position : goal.invariant-loop-position
invariant-loop-position l =
    (length l.firsts.items ≡ length (schools_of l.papers))
    × ((k : ℕ) → k < l.position → Contains (firsts_at (lists_in l.firsts.items) (position_of l.papers (first_choice l.papers (student_at l.papers k)))) (student_at l.papers k))
