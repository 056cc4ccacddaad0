-- The first students were counted.
use Rattle.std.proofs.Common.{take}
use Rattle.sc_papers.specs.Assignment.{assigned}
use Rattle.sc_papers.specs.Market.{students_of}
use Rattle.sc_notices.specs.Counting.{AreRankCounts}
use Rattle.sc_notices.proofs.ranks.rank_counts.Given as goal

abbrev pub invariant-loop-position : goal.invariant-loop-position
invariant-loop-position l = AreRankCounts l.papers (assigned l.places) (take l.position (students_of l.papers)) l.counts
