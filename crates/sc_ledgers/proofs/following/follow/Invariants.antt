use Rattle.std.proofs.Common.{◌≡◌, ◌++◌, ℕ, Bool, All, List, true, take}
use Rattle.sc_papers.specs.Market.{Market}
use Rattle.sc_papers.specs.WellFormed.{WellFormed}
use Rattle.sc_papers.specs.Log.{IsValidAfter, IsValidLog}
use Rattle.sc_papers.specs.declared.rejection.Rejection.{Rejection}
use Rattle.sc_ledgers.specs.Elsewhere.{is_aside, row_in, AreAmong, HasRows, InStep}
use Rattle.sc_ledgers.proofs.following.follow.Given as goal

abbrev pub invariant-loop-entry : goal.invariant-loop-entry
invariant-loop-entry l =
    ((j : ℕ) → is_aside l.fn.stances j ≡ true → is_aside l.stances j ≡ true)
    × ((test : ℕ → Bool) → All (λ e. test e.student ≡ true) l.entries → AreAmong test l.fn.stances → AreAmong test l.stances)
    × ((m n : Market) (log other : List Rejection) → WellFormed m → HasRows m (row_in l.run l.rows) → IsValidLog m log → IsValidAfter m log l.entries
    → InStep l.run m n log other l.fn.stances → InStep l.run m n (log ++ take l.entry-index l.entries) other l.stances)
