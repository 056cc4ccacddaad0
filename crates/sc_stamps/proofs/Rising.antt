-- The stamps that accepted amendments of one record carried rise.
use Rattle.std.proofs.Common.{◌≡◌, inl, inr, sym, ap, subst, ◌∙◌, ℕ, zero, suc, ◌+◌, ◌<◌, ◌≤◌, true, false, List, [], ◌∷◌, None, Some, slice_get, arith}
use Rattle.std.proofs.lemmas.Bool.{cases_Bool}
use Rattle.sc_papers.specs.Verdict.{verdict}
use Rattle.sc_papers.specs.WellFormed.{WellFormed}
use Rattle.sc_papers.specs.declared.amendment.Stamped.{Stamped}
use Rattle.sc_papers.proofs.Amending.{WellFormed-after}
use Rattle.sc_papers.specs.TakingBack.{is_entry}
use Rattle.sc_stamps.specs.History.{accepted_among}
use Rattle.sc_stamps.specs.Record.{is_record, is_same, record_of}
use Rattle.sc_stamps.specs.Stamps.{IsInStep, stamp_of}
use Rattle.sc_stamps.specs.Verdict.{StampedPapers, stamped_after, stamped_verdict}
use Rattle.sc_stamps.specs.declared.record.Record.{Record}
use Rattle.sc_stamps.proofs.Given.{stamp-given}
use Rattle.sc_stamps.proofs.Stamping.{counted-after, known-accepted, known-after, stamp-new, stamp-old}
use Rattle.sc_stamps.proofs.Step.{in-step-after}
use Rattle.sc_stamps.proofs.Turns.{accepted-or-refused, allowed-carried, among-accepted, among-refused}

-- well-formed papers with stamps in step
record IsSound (p : StampedPapers) : Type 0 where
  well : WellFormed p.papers
  step : IsInStep p.papers p.stamps

-- an accepted amendment leaves them so
sound-after : (p : StampedPapers) (stamped : Stamped) → IsSound p → verdict p.papers stamped.amendment ≡ None → IsSound (stamped_after p stamped.amendment)
sound-after p stamped sound allowed = record {
  well = WellFormed-after p.papers stamped.amendment sound.well allowed;
  step = in-step-after p.papers p.stamps stamped.amendment sound.step;
}

-- while the record is in the papers its stamp is not less than this
abbrev IsAtLeast : ℕ → StampedPapers → Record → Type 0
IsAtLeast n p r = is_record p.papers r ≡ true → n ≤ stamp_of p.papers p.stamps r

-- an accepted amendment, which gives a greater one, keeps that
at-least-after : (n : ℕ) (p : StampedPapers) (stamped : Stamped) (r : Record) → IsSound p → verdict p.papers stamped.amendment ≡ None → n ≤ p.stamps.accepted + 1
    → IsAtLeast n p r → IsAtLeast n (stamped_after p stamped.amendment) r
at-least-after n p stamped r sound allowed low least known =
    elim (cases_Bool (is_same (record_of stamped.amendment) r)) [
      | inl same ↦ omega (arith, low, stamp-new p.papers p.stamps stamped.amendment r sound.well allowed sound.step known same)
      | inr apart ↦
          omega (
            arith,
            least (sym (known-after p.papers stamped.amendment r apart) ∙ known),
            stamp-old p.papers p.stamps stamped.amendment r sound.well allowed sound.step known apart,
          )
    ]

-- so each accepted amendment of the record that is no entry carried no less
carried-at-least : (n : ℕ) (p : StampedPapers) (stamped : Stamped) → stamped_verdict p stamped ≡ None → is_entry stamped.amendment ≡ false → IsAtLeast n p (record_of stamped.amendment) → n ≤ stamped.stamp
carried-at-least n p stamped accepted no_entry least =
    let both = allowed-carried p stamped accepted in
    omega (arith, both.1, least (known-accepted p.papers stamped.amendment both.0 no_entry))

-- the first of a list is what stands at 0
one-first : {X : Type 0} (x y : X) (rest list : List X) → list ≡ x ∷ rest → slice_get list 0 ≡ Some y → x ≡ y
one-first x y rest list is here = let first : Some x ≡ Some y = ap (λ l. slice_get l 0) (sym is) ∙ here in cc

one-later : {X : Type 0} (x y : X) (rest list : List X) (k : ℕ) → list ≡ x ∷ rest → slice_get list (suc k) ≡ Some y → slice_get rest k ≡ Some y
one-later x y rest list k is here = ap (λ l. slice_get l (suc k)) (sym is) ∙ here

carried-later : (n : ℕ) (p : StampedPapers) (list : List Stamped) (k : ℕ) (later : Stamped) → IsSound p → n ≤ p.stamps.accepted + 1 → IsAtLeast n p (record_of later.amendment)
    → slice_get (accepted_among p list) k ≡ Some later → is_entry later.amendment ≡ false → n ≤ later.stamp
unfolding accepted_among
carried-later n p [] k later sound low least here no_entry = cc
carried-later n p (stamped ∷ rest) zero later sound low least here no_entry =
    elim (accepted-or-refused p stamped) [
      | inl accepted ↦
          let same : stamped ≡ later = one-first stamped later (accepted_among (stamped_after p stamped.amendment) rest) (accepted_among p (stamped ∷ rest)) (among-accepted p stamped rest accepted) here in
          carried-at-least n p later (subst (λ s. stamped_verdict p s ≡ None) same accepted) no_entry least
      | inr (refusal, refused) ↦
          carried-later n p rest zero later sound low least (ap (λ l. slice_get l 0) (sym (among-refused p stamped rest refusal refused)) ∙ here) no_entry
    ]
carried-later n p (stamped ∷ rest) (suc k) later sound low least here no_entry =
    elim (accepted-or-refused p stamped) [
      | inl accepted ↦
          let allowed = (allowed-carried p stamped accepted).0 in
          carried-later n (stamped_after p stamped.amendment) rest k later
          (sound-after p stamped sound allowed)
          (omega (arith, low, counted-after p.papers p.stamps stamped.amendment))
          (at-least-after n p stamped (record_of later.amendment) sound allowed low least)
          (one-later stamped later (accepted_among (stamped_after p stamped.amendment) rest) (accepted_among p (stamped ∷ rest)) k (among-accepted p stamped rest accepted) here)
          no_entry
      | inr (refusal, refused) ↦
          carried-later n p rest (suc k) later sound low least (ap (λ l. slice_get l (suc k)) (sym (among-refused p stamped rest refusal refused)) ∙ here) no_entry
    ]

-- the first accepted amendment gave its record a stamp that is greater than the one that it carried, and each
-- later one of the record carried no less
carried-first : (p : StampedPapers) (earlier : Stamped) (rest : List Stamped) (k : ℕ) (later : Stamped) → IsSound p → stamped_verdict p earlier ≡ None
    → slice_get (accepted_among (stamped_after p earlier.amendment) rest) k ≡ Some later
    → is_same (record_of earlier.amendment) (record_of later.amendment) ≡ true → is_entry later.amendment ≡ false → earlier.stamp < later.stamp
carried-first p earlier rest k later sound accepted here same no_entry =
    let both = allowed-carried p earlier accepted in
    let least : IsAtLeast (p.stamps.accepted + 1) (stamped_after p earlier.amendment) (record_of later.amendment) =
    λ known. omega (arith, stamp-new p.papers p.stamps earlier.amendment (record_of later.amendment) sound.well both.0 sound.step known same) in
    omega (
      arith,
      both.1,
      stamp-given p.papers p.stamps (record_of earlier.amendment) sound.step,
      carried-later (p.stamps.accepted + 1) (stamped_after p earlier.amendment) rest k later (sound-after p earlier sound both.0)
          (omega (arith, counted-after p.papers p.stamps earlier.amendment)) least here no_entry,
    )

rising : (p : StampedPapers) (list : List Stamped) (j k : ℕ) (earlier later : Stamped) → IsSound p → j < k
    → slice_get (accepted_among p list) j ≡ Some earlier → slice_get (accepted_among p list) k ≡ Some later
    → is_same (record_of earlier.amendment) (record_of later.amendment) ≡ true → is_entry later.amendment ≡ false → earlier.stamp < later.stamp
unfolding accepted_among
rising p [] j k earlier later sound before first second same no_entry = cc
rising p (stamped ∷ rest) j zero earlier later sound before first second same no_entry = absurd (omega (arith, before))
rising p (stamped ∷ rest) zero (suc k) earlier later sound before first second same no_entry =
    elim (accepted-or-refused p stamped) [
      | inl accepted ↦
          let is : stamped ≡ earlier = one-first stamped earlier (accepted_among (stamped_after p stamped.amendment) rest) (accepted_among p (stamped ∷ rest)) (among-accepted p stamped rest accepted) first in
          let here = one-later stamped later (accepted_among (stamped_after p stamped.amendment) rest) (accepted_among p (stamped ∷ rest)) k (among-accepted p stamped rest accepted) second in
          carried-first p earlier rest k later sound (subst (λ s. stamped_verdict p s ≡ None) is accepted)
          (subst (λ s. slice_get (accepted_among (stamped_after p s.amendment) rest) k ≡ Some later) is here) same no_entry
      | inr (refusal, refused) ↦
          rising p rest zero (suc k) earlier later sound before
          (ap (λ l. slice_get l 0) (sym (among-refused p stamped rest refusal refused)) ∙ first)
          (ap (λ l. slice_get l (suc k)) (sym (among-refused p stamped rest refusal refused)) ∙ second) same no_entry
    ]
rising p (stamped ∷ rest) (suc j) (suc k) earlier later sound before first second same no_entry =
    elim (accepted-or-refused p stamped) [
      | inl accepted ↦
          rising (stamped_after p stamped.amendment) rest j k earlier later (sound-after p stamped sound (allowed-carried p stamped accepted).0) (omega (arith, before))
          (one-later stamped earlier (accepted_among (stamped_after p stamped.amendment) rest) (accepted_among p (stamped ∷ rest)) j (among-accepted p stamped rest accepted) first)
          (one-later stamped later (accepted_among (stamped_after p stamped.amendment) rest) (accepted_among p (stamped ∷ rest)) k (among-accepted p stamped rest accepted) second) same no_entry
      | inr (refusal, refused) ↦
          rising p rest (suc j) (suc k) earlier later sound before
          (ap (λ l. slice_get l (suc j)) (sym (among-refused p stamped rest refusal refused)) ∙ first)
          (ap (λ l. slice_get l (suc k)) (sym (among-refused p stamped rest refusal refused)) ∙ second) same no_entry
    ]

pub rising-in-step : (p : StampedPapers) (list : List Stamped) (j k : ℕ) (earlier later : Stamped) → WellFormed p.papers → IsInStep p.papers p.stamps → j < k
    → slice_get (accepted_among p list) j ≡ Some earlier → slice_get (accepted_among p list) k ≡ Some later
    → is_same (record_of earlier.amendment) (record_of later.amendment) ≡ true → is_entry later.amendment ≡ false → earlier.stamp < later.stamp
rising-in-step p list j k earlier later well step before first second same no_entry =
    rising p list j k earlier later (record { well = well; step = step }) before first second same no_entry
