use Rattle.std.proofs.Common.{◌≡◌, ◌<◌, ℕ, Some, length, slice_get}
use Rattle.sc_papers.specs.Market.{choices_of, student_at}
use Rattle.sc_papers.specs.declared.rejection.Rejection.{Rejection}
use Rattle.sc_ledgers.specs.Course.{labels_of, AreStruck, HasNone, IsAfter}
use Rattle.sc_ledgers.proofs.striking.strike_turn.Given as goal

abbrev pub invariant-loop-entry : goal.invariant-loop-entry
invariant-loop-entry l =
    (length l.ledgers.items ≡ length l.papers.schools)
    × AreStruck l.turn (labels_of l.papers l.fn.ledgers.items) (labels_of l.papers l.ledgers.items)
    × ((s : ℕ) → slice_get (choices_of l.papers (student_at l.papers l.turn)) 0 ≡ Some s → HasNone l.papers l.turn (student_at l.papers l.turn) s (labels_of l.papers l.ledgers.items))
    × ((j : ℕ) (e : Rejection) (s : ℕ) → j < l.entry-index → slice_get l.segment j ≡ Some e → IsAfter l.papers e s → HasNone l.papers l.turn e.student s (labels_of l.papers l.ledgers.items))
