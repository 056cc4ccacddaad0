-- The schools of the first choices were collected.
use Rattle.std.proofs.Common.{◌≡◌, map, take}
use Rattle.sc_papers.specs.Market.{schools_of}
use Rattle.sc_papers.specs.Placed.{schools_at}
use Rattle.sc_papers.proofs.recording.schools_chosen.Given as goal

abbrev pub invariant-loop-choice : goal.invariant-loop-choice
invariant-loop-choice l = l.schools.items ≡ schools_at (schools_of l.papers) (map (λ c. c.position) (take l.choice-index l.choices))
