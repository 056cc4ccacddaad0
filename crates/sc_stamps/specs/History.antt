-- Stamped amendments in turn.
use Rattle.std.specs.Prelude.{◌≡◌, ℕ, ◌-◌, ◌<◌, ◌≤◌, true, List, [], ◌∷◌, ◌++◌, Option, None, Some, slice_get}
use Rattle.sc_papers.specs.declared.amendment.Refusal.{Refusal}
use Rattle.sc_papers.specs.declared.amendment.Stamped.{Stamped}
use Rattle.sc_stamps.specs.Record.{is_same, record_of}
use Rattle.sc_stamps.specs.Verdict.{StampedPapers, after_stamped_verdict, stamped_verdict}
use Rattle.sc_stamps.specs.declared.record.Record.{Record}

-- the papers and the stamps after a stamped amendment, accepted or refused
unfoldable pub after_one : StampedPapers → Stamped → StampedPapers
after_one p stamped = after_stamped_verdict p stamped.amendment (stamped_verdict p stamped)

-- the papers and the stamps after stamped amendments in turn, of which the refused ones change nothing
unfoldable pub after_list : StampedPapers → List Stamped → StampedPapers
after_list p [] = p
after_list p (stamped ∷ rest) = after_list (after_one p stamped) rest

-- the stamped amendment of this verdict, where it is accepted
abbrev pub unless_refused : Stamped → Option Refusal → List Stamped
unless_refused stamped None = stamped ∷ []
unless_refused stamped (Some refusal) = []

-- the accepted ones of stamped amendments in turn
unfoldable pub accepted_among : StampedPapers → List Stamped → List Stamped
accepted_among p [] = []
accepted_among p (stamped ∷ rest) = unless_refused stamped (stamped_verdict p stamped) ++ accepted_among (after_one p stamped) rest

-- the amendment with this number, counted from 1, is of the record
abbrev pub IsOf : Record → List Stamped → ℕ → Type 0
IsOf r list k = (stamped : Stamped) × (slice_get list (k - 1) ≡ Some stamped) × (is_same (record_of stamped.amendment) r ≡ true)

-- the greatest k for which the k-th amendment is of the record, counted from 1, or 0 if there is none
pub record IsNumberOfLast (r : Record) (list : List Stamped) (k : ℕ) : Type 0 where
  pub of_the_record : 0 < k → IsOf r list k
  pub greatest : (n : ℕ) → 0 < n → IsOf r list n → n ≤ k
