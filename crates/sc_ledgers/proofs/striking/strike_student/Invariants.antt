use Rattle.std.proofs.Common.{◌≡◌, ◌≤◌, ◌-◌, length}
use Rattle.sc_papers.specs.Market.{choices_of, student_at}
use Rattle.sc_ledgers.specs.Course.{labels_of, AreGone}
use Rattle.sc_ledgers.proofs.striking.strike_student.Given as goal

abbrev pub invariant-loop-proposal : goal.invariant-loop-proposal
invariant-loop-proposal l =
    (length l.ledgers.items ≡ length l.papers.schools)
    × (l.rank ≤ length (choices_of l.papers (student_at l.papers l.student)))
    × AreGone l.papers (student_at l.papers l.student) l.rank (labels_of l.papers l.fn.ledgers.items) (labels_of l.papers l.ledgers.items)

abbrev pub decreases-loop-proposal : goal.decreases-loop-proposal
decreases-loop-proposal l = length (choices_of l.papers (student_at l.papers l.student)) - l.rank
