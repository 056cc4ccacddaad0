use Rattle.std.proofs.Common.{◌≡◌, ◌<◌, ℕ, Some, false, slice_get}
use Rattle.sc_papers.specs.declared.rejection.Rejection.{Rejection}
use Rattle.sc_ledgers.specs.Marks.{marked_in}
use Rattle.sc_ledgers.proofs.marks.Marks.have_any.Given as goal

abbrev pub invariant-loop-entry : goal.invariant-loop-entry
invariant-loop-entry l = (j : ℕ) (e : Rejection) → j < l.entry-index → slice_get l.segment j ≡ Some e → marked_in l.papers l.self.flags e.school ≡ false
