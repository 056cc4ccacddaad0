use Rattle.std.proofs.Common.{◌≡◌, ◌≤◌, length, take}
use Rattle.std.specs.List.{All}
use Rattle.sc_papers.specs.Market.{students_of}
use Rattle.sc_papers.specs.Matching.{Matching}
use Rattle.sc_tallies.specs.Places.{ArePlaces}
use Rattle.sc_tallies.specs.Tally.{AreTalliesAmong}
use Rattle.sc_tallies.proofs.tally.count_students.Given as goal

abbrev pub invariant-loop-position : goal.invariant-loop-position
invariant-loop-position l = (length l.tallies ≡ length l.papers.schools)
    × All (λ t. t.held ≤ l.position) l.tallies
    × ((a : Matching) → ArePlaces l.papers a l.places → AreTalliesAmong l.papers a (take l.position (students_of l.papers)) l.tallies)
