use Rattle.std.proofs.Common.{◌≡◌, ◌++◌, drop, map, take}
use Rattle.sc_papers.specs.NumberTable.{moved}
use Rattle.sc_papers.proofs.flat_papers.number_table.renumber.Given as goal

abbrev pub invariant-loop-position : goal.invariant-loop-position
invariant-loop-position l =
    l.position-items
    ≡ map (moved l.from l.to) (take l.position-index l.fn.positions.items) ++ drop l.position-index l.fn.positions.items
