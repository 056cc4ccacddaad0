use Rattle.std.proofs.Common.{◌≡◌, ◌++◌, ℕ, List, take}
use Rattle.sc_papers.specs.Assignment.{assigned}
use Rattle.sc_repair.specs.Replacing.{with_given}
use Rattle.sc_repair.proofs.replacing.put_all.Given as goal

abbrev pub invariant-loop-stance : goal.invariant-loop-stance
invariant-loop-stance l =
    ((more : List (ℕ × ℕ)) × (l.places ≡ l.initial.places ++ more))
    × ((j : ℕ) → assigned l.places j ≡ with_given (take l.stance-index l.stances) (assigned l.initial.places) j)
