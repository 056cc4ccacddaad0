use Rattle.std.proofs.Common.{◌≡◌, false}
use Rattle.sc_checkpoint.specs.Chains.{logs_in, students_in}
use Rattle.sc_engine.specs.Round.{is_spent, view_of}
use Rattle.sc_repair.specs.Resumption.{GoesOn}
use Rattle.sc_repair.proofs.opening.enter_all.Given as goal

abbrev pub invariant-loop-position : goal.invariant-loop-position
invariant-loop-position g l =
    GoesOn l.papers l.leaver (view_of g.R.Roll.keys g.R.Roll.seats l.round) (students_in l.segments) (logs_in l.segments) l.position
    × (is_spent l.round ≡ false)
