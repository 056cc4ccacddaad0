use Rattle.sc_papers.specs.Market.{schools_of}
use Rattle.sc_papers.specs.Matching.{Matching}
use Rattle.sc_tallies.specs.Tally.{AreTallies}
use Rattle.sc_audit.specs.Least.{LeastOf}
use Rattle.sc_audit.specs.Tallies.{over_at}
use Rattle.sc_audit.proofs.tallies.least_over.Given as goal

abbrev pub invariant-loop-position : goal.invariant-loop-position
invariant-loop-position l = (a : Matching) → AreTallies l.papers a l.tallies → LeastOf (schools_of l.papers) (over_at l.papers a) l.position l.least
