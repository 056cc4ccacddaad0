use Rattle.std.proofs.Common.{take}
use Rattle.sc_region.specs.Districts.{students_in}
use Rattle.sc_region.proofs.Listed.{HasPositions}
use Rattle.sc_region.proofs.candidates.push_positions.Given as goal

abbrev pub invariant-loop-first : goal.invariant-loop-first
invariant-loop-first l = HasPositions l.papers (take l.first-index (students_in l.firsts)) l.initial.positions.items l.positions.items
