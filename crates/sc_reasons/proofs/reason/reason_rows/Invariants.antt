use Rattle.std.proofs.Common.{◌≡◌, take, All}
use Rattle.std.specs.Prelude.{flat_map}
use Rattle.sc_papers.specs.Matching.{Matching}
use Rattle.sc_reasons.specs.Cutoff.{rows_in_order}
use Rattle.sc_reasons.specs.Entrants.{Holds}
use Rattle.sc_reasons.specs.Reason.{reasons_of}
use Rattle.sc_reasons.proofs.reason.reason_rows.Given as goal

abbrev pub invariant-loop-entrant : goal.invariant-loop-entrant
invariant-loop-entrant l = (a : Matching) → l.rows ≡ rows_in_order l.papers a → All (Holds a) l.entrants
    → l.reasons.items ≡ flat_map (λ entrant. reasons_of l.papers a entrant.student) (take l.entrant-index l.entrants)
