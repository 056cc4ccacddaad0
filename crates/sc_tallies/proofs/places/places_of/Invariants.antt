use Rattle.std.proofs.Common.{◌≡◌, map, take}
use Rattle.sc_papers.specs.Assignment.{assigned}
use Rattle.sc_papers.specs.Market.{students_of}
use Rattle.sc_tallies.proofs.places.places_of.Given as goal

abbrev pub invariant-loop-position : goal.invariant-loop-position
invariant-loop-position l = l.places.items ≡ map (assigned l.assignment) (take l.position (students_of l.papers))
