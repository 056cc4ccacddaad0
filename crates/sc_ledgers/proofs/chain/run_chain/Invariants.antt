use Rattle.std.proofs.Common.{◌≡◌, ◌<◌, ◌-◌, ◌++◌, ℕ, All, Bool, List, length, true}
use Rattle.sc_papers.specs.Market.{student_at}
use Rattle.sc_papers.specs.Progress.{all_choices}
use Rattle.sc_papers.specs.Restriction.{joined}
use Rattle.sc_papers.specs.declared.rejection.Rejection.{Rejection}
use Rattle.sc_ledgers.specs.Cohort.{cohort}
use Rattle.sc_ledgers.specs.Course.{labels_of, AreTogether, Begins, Course}
use Rattle.sc_ledgers.proofs.chain.run_chain.Given as goal

abbrev pub invariant-loop-entry : goal.invariant-loop-entry
invariant-loop-entry l =
    (l.hand.position < length l.papers.students)
    × (length l.ledgers.items ≡ length l.papers.schools)
    × ((enters : ℕ → Bool) (new : List (List Rejection)) (test inner : ℕ → Bool) → Begins (cohort l.papers enters) new l.turn (labels_of l.papers l.fn.ledgers.items)
    → AreTogether l.papers test inner → test (student_at l.papers l.turn) ≡ true → (test (student_at l.papers l.hand.position) ≡ true) × All (λ e. test e.student ≡ true) l.chain.items)
    × ((enters : ℕ → Bool) (new : List (List Rejection)) → Begins (cohort l.papers enters) new l.turn (labels_of l.papers l.fn.ledgers.items)
    → Course (cohort l.papers enters) new l.turn (joined new ++ l.chain.items) (student_at l.papers l.hand.position) l.hand.rank (labels_of l.papers l.fn.ledgers.items) (labels_of l.papers l.ledgers.items))

abbrev pub decreases-loop-entry : goal.decreases-loop-entry
decreases-loop-entry l = all_choices l.papers - length l.chain.items
