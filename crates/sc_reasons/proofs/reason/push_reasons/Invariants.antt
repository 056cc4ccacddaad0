-- The rows so far are the student's first ones, by whichever matching the rows of the schools were made.
use Rattle.std.proofs.Common.{◌≡◌, ◌++◌, take}
use Rattle.sc_papers.specs.Matching.{Matching}
use Rattle.sc_reasons.specs.Cutoff.{rows_in_order}
use Rattle.sc_reasons.specs.Entrants.{Holds}
use Rattle.sc_reasons.specs.Reason.{reasons_of}
use Rattle.sc_reasons.proofs.reason.push_reasons.Given as goal

abbrev pub invariant-loop-choice : goal.invariant-loop-choice
invariant-loop-choice l = (a : Matching) → l.rows ≡ rows_in_order l.papers a → Holds a l.entrant → l.reasons.items ≡ l.fn.reasons.items ++ take l.choice-index (reasons_of l.papers a l.entrant.student)
