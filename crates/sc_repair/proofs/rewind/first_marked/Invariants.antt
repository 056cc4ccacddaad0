use Rattle.std.proofs.Common.{◌≡◌, ℕ, ◌<◌, false, get_or}
use Rattle.sc_papers.specs.Market.{students_of}
use Rattle.sc_repair.specs.Rewinding.{lists}
use Rattle.sc_repair.proofs.rewind.first_marked.Given as goal

abbrev pub invariant-loop-position : goal.invariant-loop-position
invariant-loop-position l =
    (k : ℕ) → k < l.position-index → lists l.papers l.school (get_or (students_of l.papers) (get_or l.positions k 0) 0) ≡ false
