-- The ranks of the first rows' cutoffs were found.
use Rattle.std.proofs.Common.{◌≡◌, length, map, take}
use Rattle.sc_papers.specs.Matching.{Matching}
use Rattle.sc_reasons.specs.Cutoff.{rows_in_order}
use Rattle.sc_notices.specs.Lottery.{cutoff_rank}
use Rattle.sc_notices.proofs.lottery.cutoff_ranks.Given as goal

abbrev pub invariant-loop-row : goal.invariant-loop-row
invariant-loop-row l = record {
  count : length l.ranks.items ≡ l.row-index;
  ranks : (a : Matching) → l.rows ≡ rows_in_order l.papers a → l.ranks.items ≡ map (λ row. cutoff_rank l.papers row.cutoff) (take l.row-index l.rows);
}
