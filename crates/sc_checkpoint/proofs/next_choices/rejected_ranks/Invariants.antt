-- The first entries have been put into the table.
use Rattle.std.proofs.Common.{◌≡◌, length, take}
use Rattle.sc_papers.specs.Market.{students_of}
use Rattle.sc_checkpoint.specs.Ranks.{AreTabled}
use Rattle.sc_checkpoint.proofs.next_choices.rejected_ranks.Given as goal

abbrev pub invariant-loop-entry : goal.invariant-loop-entry
invariant-loop-entry l = AreTabled l.papers (students_of l.papers) (take l.entry-index l.log) l.table.items × (length l.table.items ≡ l.count)
