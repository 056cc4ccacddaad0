-- The first choices are those at the first positions.
use Rattle.std.proofs.Common.{◌≡◌, length, map, take}
use Rattle.sc_papers.specs.StudentRow.{classed_at}
use Rattle.sc_papers.proofs.flat_papers.FlatPapers.zoned_choices.Given as goal

abbrev pub invariant-loop-rank : goal.invariant-loop-rank
invariant-loop-rank l = record {
  filled : take l.rank l.choices ≡ map (classed_at l.self l.student) (take l.rank l.positions);
  all : l.position-items ≡ l.positions;
  room : length l.choices ≡ 20;
}
