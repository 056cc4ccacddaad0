use Rattle.std.proofs.Common.{◌≡◌, ℕ, take}
use Rattle.sc_papers.specs.Assignment.{assigned}
use Rattle.sc_repair.specs.Replacing.{with_replaced}
use Rattle.sc_repair.proofs.replacing.move_all.Given as goal

abbrev pub invariant-loop-stance : goal.invariant-loop-stance
invariant-loop-stance l = (j : ℕ) → assigned l.places j ≡ with_replaced (take l.stance-index l.stances) (assigned l.initial.places) j
