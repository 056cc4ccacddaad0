use Rattle.std.proofs.Common.{◌≡◌, drop}
use Rattle.sc_intake.specs.Papers.{all_entered}
use Rattle.sc_intake.proofs.papers.enter_all.Given as goal

abbrev pub invariant-loop-row : goal.invariant-loop-row
invariant-loop-row l = all_entered l.lists l.initial.papers l.roster ≡ all_entered l.lists l.papers (drop l.row-index l.roster)
