use Rattle.std.proofs.Common.{◌≡◌, map, take}
use Rattle.sc_papers.specs.Market.{students_of}
use Rattle.sc_engine.specs.RoundView.{next_of}
use Rattle.sc_engine.proofs.round.ranks.places_of.Given as goal

abbrev pub invariant-loop-position : goal.invariant-loop-position
invariant-loop-position l = l.places.items ≡ map (next_of l.papers l.ranks) (take l.position (students_of l.papers))
