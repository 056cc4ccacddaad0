-- The schools of the first positions were collected.
use Rattle.std.proofs.Common.{◌≡◌, take}
use Rattle.sc_papers.specs.Market.{schools_of}
use Rattle.sc_papers.specs.Placed.{schools_at}
use Rattle.sc_papers.proofs.recording.schools_at.Given as goal

abbrev pub invariant-loop-position : goal.invariant-loop-position
invariant-loop-position l = l.schools.items ≡ schools_at (schools_of l.papers) (take l.position-index l.positions)
