use Rattle.std.proofs.Common.{◌≡◌, map, take}
use Rattle.sc_papers.specs.Matching.{Matching}
use Rattle.sc_tallies.specs.Tally.{AreTallies}
use Rattle.sc_papers.specs.Market.{schools_of}
use Rattle.sc_reasons.specs.Cutoff.{cutoff_row}
use Rattle.sc_reasons.proofs.cutoff.rows_by_tallies.Given as goal

abbrev pub invariant-loop-position : goal.invariant-loop-position
invariant-loop-position l = record {
  rows : (a : Matching) → AreTallies l.papers a l.counted → l.rows.items ≡ map (cutoff_row l.papers a) (take l.position (schools_of l.papers));
  schools : map (λ row. row.school) l.rows.items ≡ take l.position (schools_of l.papers);
}
