use Rattle.std.proofs.Common.{◌≡◌, take}
use Rattle.sc_intake.specs.Papers.{opening}
use Rattle.sc_intake.proofs.papers.open_papers.Given as goal

abbrev pub invariant-loop-row : goal.invariant-loop-row
invariant-loop-row l = l.papers ≡ opening l.fn.seed (take l.row-index l.schools)
