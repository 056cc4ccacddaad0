-- The choices of the first students were counted.
use Rattle.std.proofs.Common.{take}
use Rattle.sc_papers.specs.Market.{students_of}
use Rattle.sc_notices.specs.Counting.{AreListings}
use Rattle.sc_notices.proofs.listings.listings.Given as goal

abbrev pub invariant-loop-position : goal.invariant-loop-position
invariant-loop-position l = AreListings l.papers (take l.position (students_of l.papers)) l.counts.items
