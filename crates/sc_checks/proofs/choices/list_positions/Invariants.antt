use Rattle.std.proofs.Common.{take}
use Rattle.sc_intake.specs.Papers.{ArePositions}
use Rattle.sc_checks.proofs.choices.list_positions.Given as goal

abbrev pub invariant-loop-position : goal.invariant-loop-position
invariant-loop-position l = ArePositions l.positions l.lists (take l.position l.lists)
