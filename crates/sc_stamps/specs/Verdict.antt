-- What the rules answer to a stamped amendment: its refusal, or the papers and the stamps after it.
use Rattle.std.specs.Prelude.{◌≡◌, ℕ, ◌+◌, ◌==◌, if◌then◌else◌, not, nat_le, [], ◌∷◌, Option, None, Some}
use Rattle.sc_papers.specs.Market.{Market}
use Rattle.sc_papers.specs.Verdict.{after, first_of, refuse_if, verdict}
use Rattle.sc_papers.specs.declared.amendment.Amendment.{Amendment}
use Rattle.sc_papers.specs.declared.amendment.Refusal.{Refusal}
use Rattle.sc_papers.specs.declared.amendment.Refusal.TheVariants.{Stale, Spent}
use Rattle.sc_papers.specs.declared.amendment.Stamped.{Stamped}
use Rattle.sc_papers.specs.declared.stamp.TheConstants.Stamp.{GREATEST}
use Rattle.sc_stamps.specs.Record.{is_record, is_same, record_of}
use Rattle.sc_stamps.specs.Stamps.{Stamps, no_stamps, stamp_of, stamps_after}
use Rattle.sc_stamps.specs.declared.record.Record.{Record}

-- papers, and the stamps of their records
pub record StampedPapers : Type 0 where
  pub papers : Market
  pub stamps : Stamps

-- papers that no amendment was accepted for
abbrev pub unamended : Market → StampedPapers
unamended m = record { papers = m; stamps = no_stamps m }

-- what the stamps object to an amendment that the papers allow: the desk has not seen the record's last
-- amendment, or there is no stamp left
abbrev pub stamp_verdict : ℕ → ℕ → ℕ → Option Refusal
stamp_verdict stands carried accepted =
    first_of (refuse_if (not (stands == carried)) (Stale stands) ∷ refuse_if (nat_le GREATEST accepted) Spent ∷ [])

-- the refusal of a stamped amendment, if there is one: that of the papers first
abbrev pub stamped_verdict : StampedPapers → Stamped → Option Refusal
stamped_verdict p stamped =
    first_of (verdict p.papers stamped.amendment ∷ stamp_verdict (stamp_of p.papers p.stamps (record_of stamped.amendment)) stamped.stamp p.stamps.accepted ∷ [])

-- the papers and the stamps after an amendment that is not refused
abbrev pub stamped_after : StampedPapers → Amendment → StampedPapers
stamped_after p a = record { papers = after p.papers a; stamps = stamps_after p.papers a p.stamps }

-- an accepted amendment gives its record, where that is still in the papers, the next number as its stamp, and
-- leaves every other stamp; an absent record has none
abbrev pub GivesStamp : StampedPapers → Amendment → StampedPapers → Type 0
GivesStamp old a new = (r : Record)
    → stamp_of new.papers new.stamps r ≡ (if is_record new.papers r then (if is_same (record_of a) r then old.stamps.accepted + 1 else stamp_of old.papers old.stamps r) else 0)

-- the papers and the stamps after a stamped amendment of this verdict: a refused one changes nothing
abbrev pub after_stamped_verdict : StampedPapers → Amendment → Option Refusal → StampedPapers
after_stamped_verdict p a None = stamped_after p a
after_stamped_verdict p a (Some refusal) = p
