-- The line of each rank so far was added.
use Rattle.std.proofs.Common.{◌≡◌, ◌++◌, take}
use Rattle.std.specs.Prelude.{flat_map}
use Rattle.sc_papers.specs.Assignment.{assigned}
use Rattle.sc_notices.specs.Summary.{with_rank}
use Rattle.sc_notices.specs.SummaryText.{rank_line, ranks}
use Rattle.sc_notices.proofs.summary.push_ranks.Given as goal

abbrev pub invariant-loop-rank : goal.invariant-loop-rank
invariant-loop-rank l = l.text.items ≡ l.initial.text.items ++ flat_map (λ rank. rank_line rank (with_rank l.papers (assigned l.places) rank)) (take l.rank ranks)
