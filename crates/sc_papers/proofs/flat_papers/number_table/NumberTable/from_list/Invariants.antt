use Rattle.std.proofs.Common.{◌≡◌, take}
use Rattle.sc_papers.proofs.flat_papers.number_table.NumberTable.from_list.Given as goal

abbrev pub invariant-loop-number : goal.invariant-loop-number
invariant-loop-number l = l.table ≡ take l.number-index l.fn.numbers.items
