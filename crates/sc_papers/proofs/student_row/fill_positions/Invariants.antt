-- The first positions are those of the first schools.
use Rattle.std.proofs.Common.{◌≡◌, length, take}
use Rattle.sc_papers.specs.StudentRow.{positions_in}
use Rattle.sc_papers.proofs.student_row.fill_positions.Given as goal

abbrev pub invariant-loop-rank : goal.invariant-loop-rank
invariant-loop-rank l = record {
  filled : take l.rank l.positions ≡ positions_in l.table (take l.rank l.schools);
  room : length l.positions ≡ 20;
}
