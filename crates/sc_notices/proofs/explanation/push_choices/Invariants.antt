-- The line of each choice so far was added, and it is known whether the student has one of them, by whichever matching
-- the rows of the schools were made.
use Rattle.std.proofs.Common.{◌≡◌, ◌++◌, ◌≤◌, ◌-◌, length, take}
use Rattle.std.specs.Prelude.{flat_map}
use Rattle.sc_papers.specs.Market.{choices_of}
use Rattle.sc_papers.specs.Matching.{Matching}
use Rattle.sc_reasons.specs.Cutoff.{rows_in_order}
use Rattle.sc_reasons.specs.Entrants.{Holds}
use Rattle.sc_notices.specs.Explanation.{has_before}
use Rattle.sc_notices.specs.ExplanationText.{choice_line}
use Rattle.sc_notices.proofs.ExplanationLemmas.{ranked}
use Rattle.sc_notices.proofs.explanation.push_choices.Given as goal

abbrev pub invariant-ranks : goal.invariant-ranks
invariant-ranks l = record {
  past : (a : Matching) → l.rows ≡ rows_in_order l.papers a → Holds a l.entrant → l.is_past ≡ has_before l.papers a l.entrant.student l.rank;
  lines : (a : Matching) → l.rows ≡ rows_in_order l.papers a → Holds a l.entrant → l.text.items ≡ l.fn.text.items ++ flat_map (λ choice. choice_line l.papers a l.entrant.student choice.0 choice.1) (take l.rank (ranked l.papers l.entrant.student));
  within : l.rank ≤ length (choices_of l.papers l.entrant.student);
}

abbrev pub decreases-ranks : goal.decreases-ranks
decreases-ranks l = length (choices_of l.papers l.entrant.student) - l.rank
