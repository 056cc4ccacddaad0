-- The first students were added.
use Rattle.std.proofs.Common.{take}
use Rattle.sc_papers.specs.Assignment.{assigned}
use Rattle.sc_papers.specs.Market.{students_of}
use Rattle.sc_notices.specs.KeyLists.{AreCandidates}
use Rattle.sc_notices.proofs.candidates.find_candidates.Given as goal

abbrev pub invariant-loop-position : goal.invariant-loop-position
invariant-loop-position l = AreCandidates l.papers (assigned l.places) (take l.position (students_of l.papers)) l.candidates.admitted l.candidates.waiting
