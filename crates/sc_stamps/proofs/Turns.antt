-- Stamped amendments in turn, and the stamps after them.
use Rattle.std.proofs.Common.{◌≡◌, ◌⊎◌, inl, inr, refl, sym, ap, subst, ◌∙◌, ℕ, zero, suc, ◌+◌, ◌-◌, ◌≤◌, true, false, cond, List, [], ◌∷◌, ◌++◌, length, slice_get, Option, Some, None, arith}
use Rattle.std.specs.Prelude.{◌==◌, nat_le, not, replicate, slice_index_or}
use Rattle.std.specs.Option.{option_map_or}
use Rattle.std.proofs.lemmas.Bool.{cases_Bool, cond-false, cond-true, eqb-true, false≢true, not-false}
use Rattle.std.proofs.lemmas.Option.{none-some}
use Rattle.std.proofs.lemmas.List.{length-replicate}
use Rattle.sc_papers.specs.Market.{Market}
use Rattle.sc_papers.specs.Verdict.{after, refuse_if, verdict}
use Rattle.sc_papers.specs.WellFormed.{WellFormed}
use Rattle.sc_papers.specs.declared.amendment.Refusal.{Refusal}
use Rattle.sc_papers.specs.declared.amendment.Refusal.TheVariants.{Stale, Spent}
use Rattle.sc_papers.specs.declared.amendment.Stamped.{Stamped}
use Rattle.sc_papers.specs.declared.stamp.TheConstants.Stamp.{GREATEST}
use Rattle.sc_papers.proofs.Amending.{WellFormed-after}
use Rattle.sc_papers.proofs.Objections.{first_of-none, refuse_if-none}
use Rattle.sc_stamps.specs.History.{IsNumberOfLast, accepted_among, after_list, after_one, unless_refused}
use Rattle.sc_stamps.specs.Record.{is_record, is_same, record_of}
use Rattle.sc_stamps.specs.Stamps.{IsInStep, no_stamps, stamp_at, stamp_of, stamps_after}
use Rattle.sc_stamps.specs.Verdict.{StampedPapers, after_stamped_verdict, stamp_verdict, stamped_after, stamped_verdict}
use Rattle.sc_stamps.specs.declared.record.Record.{Record}
use Rattle.sc_stamps.specs.declared.record.Record.TheVariants.{OfStudent, OfSchool}
use Rattle.sc_stamps.proofs.Given.{given-zeros}
use Rattle.sc_stamps.proofs.Stamping.{counted-after, known-after, stamp-absent, stamp-new, stamp-old}
use Rattle.sc_stamps.proofs.Step.{in-step-after}

-- the number of the last amendment that is of the record, where the first of the list has number n; if there
-- is none, what was found before
unfoldable pub last_from : ℕ → Record → List Stamped → ℕ → ℕ
last_from n r [] found = found
last_from n r (stamped ∷ rest) found = last_from (n + 1) r rest (cond (is_same (record_of stamped.amendment) r) n found)

-- the element of a list at an index is of the record
abbrev IsOfAt : Record → List Stamped → ℕ → Type 0
IsOfAt r list j = (stamped : Stamped) × (slice_get list j ≡ Some stamped) × (is_same (record_of stamped.amendment) r ≡ true)

-- what `last_from` answers is what was found before or the number of one of the record, and none behind is of it
record Ends (n : ℕ) (r : Record) (list : List Stamped) (found last : ℕ) : Type 0 where
  own : (last ≡ found) ⊎ ((j : ℕ) × (last ≡ n + j) × IsOfAt r list j)
  greatest : (j : ℕ) → IsOfAt r list j → n + j ≤ last
  long : found ≤ last

later-of : (r : Record) (stamped : Stamped) (rest : List Stamped) (j : ℕ) → IsOfAt r rest j → IsOfAt r (stamped ∷ rest) (suc j)
later-of r stamped rest j of = (of.0, of.1, of.2)

ends : (n : ℕ) (r : Record) (list : List Stamped) (found : ℕ) → found ≤ n → Ends n r list found (last_from n r list found)
unfolding last_from
ends n r [] found low = record { own = inl refl; greatest = λ j of. absurd (none-some of.0 of.1); long = omega arith }
ends n r (stamped ∷ rest) found low =
    elim (cases_Bool (is_same (record_of stamped.amendment) r)) [
      | inl same ↦
          let on = ends (n + 1) r rest n (omega arith) in
          subst (λ f. Ends n r (stamped ∷ rest) found (last_from (n + 1) r rest f)) (sym (cond-true (is_same (record_of stamped.amendment) r) n found same))
          (record {
            own = elim on.own [ inl first ↦ inr (0, omega (arith, first), (stamped, refl, same)) | inr (j, at, of) ↦ inr (suc j, omega (arith, at), later-of r stamped rest j of) ];
            greatest = greatest on.long on.greatest;
            long = omega (arith, on.long, low);
          })
      | inr other ↦
          let on = ends (n + 1) r rest found (omega (arith, low)) in
          subst (λ f. Ends n r (stamped ∷ rest) found (last_from (n + 1) r rest f)) (sym (cond-false (is_same (record_of stamped.amendment) r) n found other))
          (record {
            own = elim on.own [ inl before ↦ inl before | inr (j, at, of) ↦ inr (suc j, omega (arith, at), later-of r stamped rest j of) ];
            greatest = λ j of. apart other on.greatest j of;
            long = on.long;
          })
    ]
  where
    greatest : {last : ℕ} → n ≤ last → ((j : ℕ) → IsOfAt r rest j → n + 1 + j ≤ last) → (j : ℕ) → IsOfAt r (stamped ∷ rest) j → n + j ≤ last
    greatest long behind zero of = omega (arith, long)
    greatest long behind (suc j) of = omega (arith, behind j (of.0, of.1, of.2))

    apart : {last : ℕ} → is_same (record_of stamped.amendment) r ≡ false → ((j : ℕ) → IsOfAt r rest j → n + 1 + j ≤ last) → (j : ℕ) → IsOfAt r (stamped ∷ rest) j → n + j ≤ last
    apart other behind zero of = absurd (false≢true (sym other ∙ ap (λ o. option_map_or (λ (s : Stamped). is_same (record_of s.amendment) r) o false) of.1 ∙ of.2))
    apart other behind (suc j) of = omega (arith, behind j (of.0, of.1, of.2))

-- counted from 1 it is the number of the last one of the record
pub last-of : (r : Record) (list : List Stamped) → IsNumberOfLast r list (last_from 1 r list 0)
last-of r list =
    let on = ends 1 r list 0 (omega arith) in
    record {
      of_the_record = λ some. elim on.own [ inl none ↦ absurd (omega (arith, some, none)) | inr (j, at, of) ↦ subst (IsOfAt r list) (omega (arith, at)) of ];
      greatest = λ n some of. omega (arith, some, on.greatest (n - 1) of);
    }

-- a stamped amendment is accepted or refused
pub accepted-or-refused : (p : StampedPapers) (stamped : Stamped) → (stamped_verdict p stamped ≡ None) ⊎ ((refusal : Refusal) × (stamped_verdict p stamped ≡ Some refusal))
accepted-or-refused p stamped = by_case (stamped_verdict p stamped) refl
  where
    by_case : (answer : Option Refusal) → stamped_verdict p stamped ≡ answer → (stamped_verdict p stamped ≡ None) ⊎ ((refusal : Refusal) × (stamped_verdict p stamped ≡ Some refusal))
    by_case None accepted = inl accepted
    by_case (Some refusal) refused = inr (refusal, refused)

-- an accepted one is allowed by the papers, and carried its record's stamp
stamp-carried : (stands carried accepted : ℕ) → stamp_verdict stands carried accepted ≡ None → stands ≡ carried
stamp-carried stands carried accepted none =
    let both = first_of-none (refuse_if (not (stands == carried)) (Stale stands) ∷ refuse_if (nat_le GREATEST accepted) Spent ∷ []) none in
    eqb-true stands carried (not-false (stands == carried) (refuse_if-none (not (stands == carried)) (Stale stands) both.0))

pub allowed-carried : (p : StampedPapers) (stamped : Stamped) → stamped_verdict p stamped ≡ None
    → (verdict p.papers stamped.amendment ≡ None) × (stamp_of p.papers p.stamps (record_of stamped.amendment) ≡ stamped.stamp)
allowed-carried p stamped accepted =
    let stands = stamp_of p.papers p.stamps (record_of stamped.amendment) in
    let none = first_of-none (verdict p.papers stamped.amendment ∷ stamp_verdict stands stamped.stamp p.stamps.accepted ∷ []) accepted in
    (none.0, stamp-carried stands stamped.stamp p.stamps.accepted none.1.0)

-- an accepted one is made, and a refused one changes nothing
pub one-accepted : (p : StampedPapers) (stamped : Stamped) → stamped_verdict p stamped ≡ None → after_one p stamped ≡ stamped_after p stamped.amendment
unfolding after_one
one-accepted p stamped accepted = ap (after_stamped_verdict p stamped.amendment) accepted

pub one-refused : (p : StampedPapers) (stamped : Stamped) (refusal : Refusal) → stamped_verdict p stamped ≡ Some refusal → after_one p stamped ≡ p
unfolding after_one
one-refused p stamped refusal refused = ap (after_stamped_verdict p stamped.amendment) refused

-- the papers and the stamps after lists
pub after-lists : (p : StampedPapers) (list more : List Stamped) → after_list p (list ++ more) ≡ after_list (after_list p list) more
unfolding after_list
after-lists p [] more = refl
after-lists p (stamped ∷ rest) more = after-lists (after_one p stamped) rest more

pub last-accepted : (p : StampedPapers) (list : List Stamped) (stamped : Stamped) → stamped_verdict (after_list p list) stamped ≡ None
    → after_list p (list ++ stamped ∷ []) ≡ stamped_after (after_list p list) stamped.amendment
unfolding after_list
last-accepted p list stamped accepted = after-lists p list (stamped ∷ []) ∙ one-accepted (after_list p list) stamped accepted

pub last-refused : (p : StampedPapers) (list : List Stamped) (stamped : Stamped) (refusal : Refusal) → stamped_verdict (after_list p list) stamped ≡ Some refusal
    → after_list p (list ++ stamped ∷ []) ≡ after_list p list
unfolding after_list
last-refused p list stamped refusal refused = after-lists p list (stamped ∷ []) ∙ one-refused (after_list p list) stamped refusal refused

-- they are those after the rest of a list, from what its first amendment leaves
pub list-accepted : (p : StampedPapers) (stamped : Stamped) (rest : List Stamped) → stamped_verdict p stamped ≡ None → after_list p (stamped ∷ rest) ≡ after_list (stamped_after p stamped.amendment) rest
unfolding after_list
list-accepted p stamped rest accepted = ap (λ q. after_list q rest) (one-accepted p stamped accepted)

pub list-refused : (p : StampedPapers) (stamped : Stamped) (rest : List Stamped) (refusal : Refusal) → stamped_verdict p stamped ≡ Some refusal → after_list p (stamped ∷ rest) ≡ after_list p rest
unfolding after_list
list-refused p stamped rest refusal refused = ap (λ q. after_list q rest) (one-refused p stamped refusal refused)

-- and so are the accepted ones
pub among-accepted : (p : StampedPapers) (stamped : Stamped) (rest : List Stamped) → stamped_verdict p stamped ≡ None
    → accepted_among p (stamped ∷ rest) ≡ stamped ∷ accepted_among (stamped_after p stamped.amendment) rest
unfolding accepted_among
among-accepted p stamped rest accepted = λ t. unless_refused stamped (accepted t) ++ accepted_among (one-accepted p stamped accepted t) rest

pub among-refused : (p : StampedPapers) (stamped : Stamped) (rest : List Stamped) (refusal : Refusal) → stamped_verdict p stamped ≡ Some refusal
    → accepted_among p (stamped ∷ rest) ≡ accepted_among p rest
unfolding accepted_among
among-refused p stamped rest refusal refused = λ t. unless_refused stamped (refused t) ++ accepted_among (one-refused p stamped refusal refused t) rest

-- the papers stay well-formed
pub well-list : (p : StampedPapers) (list : List Stamped) → WellFormed p.papers → WellFormed (after_list p list).papers
unfolding after_list
well-list p [] well = well
well-list p (stamped ∷ rest) well =
    elim (accepted-or-refused p stamped) [
      | inl accepted ↦
          well-list (after_one p stamped) rest
          (rw (one-accepted p stamped accepted) (WellFormed-after p.papers stamped.amendment well (allowed-carried p stamped accepted).0))
      | inr (refusal, refused) ↦ well-list (after_one p stamped) rest (rw (one-refused p stamped refusal refused) well)
    ]

-- each accepted amendment is counted
pub counted-list : (p : StampedPapers) (list : List Stamped) → (after_list p list).stamps.accepted ≡ p.stamps.accepted + length (accepted_among p list)
unfolding after_list accepted_among
counted-list p [] = omega arith
counted-list p (stamped ∷ rest) =
    elim (accepted-or-refused p stamped) [
      | inl accepted ↦
          omega (
            arith,
            ap (λ (q : StampedPapers). q.stamps.accepted) (list-accepted p stamped rest accepted),
            counted-list (stamped_after p stamped.amendment) rest,
            counted-after p.papers p.stamps stamped.amendment,
            ap length (among-accepted p stamped rest accepted),
          )
      | inr (refusal, refused) ↦
          omega (
            arith,
            ap (λ (q : StampedPapers). q.stamps.accepted) (list-refused p stamped rest refusal refused),
            counted-list p rest,
            ap length (among-refused p stamped rest refusal refused),
          )
    ]

-- what was found of a record's last amendment, one amendment on
found-after : (p : StampedPapers) (stamped : Stamped) (r : Record) (found : ℕ) → WellFormed p.papers → IsInStep p.papers p.stamps → verdict p.papers stamped.amendment ≡ None
    → (is_record p.papers r ≡ true → found ≡ stamp_of p.papers p.stamps r) → is_record (after p.papers stamped.amendment) r ≡ true
    → cond (is_same (record_of stamped.amendment) r) (p.stamps.accepted + 1) found ≡ stamp_of (after p.papers stamped.amendment) (stamps_after p.papers stamped.amendment p.stamps) r
found-after p stamped r found well step allowed is known =
    elim (cases_Bool (is_same (record_of stamped.amendment) r)) [
      | inl same ↦
          (λ t. cond (same t) (p.stamps.accepted + 1) found)
          ∙ sym (stamp-new p.papers p.stamps stamped.amendment r well allowed step known same)
      | inr apart ↦
          (λ t. cond (apart t) (p.stamps.accepted + 1) found)
          ∙ is (sym (known-after p.papers stamped.amendment r apart) ∙ known)
          ∙ sym (stamp-old p.papers p.stamps stamped.amendment r well allowed step known apart)
    ]

last-one : (p : StampedPapers) (stamped : Stamped) (rest : List Stamped) (r : Record) (found : ℕ) → stamped_verdict p stamped ≡ None
    → last_from (p.stamps.accepted + 1) r (accepted_among p (stamped ∷ rest)) found
    ≡ last_from ((stamped_after p stamped.amendment).stamps.accepted + 1) r (accepted_among (stamped_after p stamped.amendment) rest) (cond (is_same (record_of stamped.amendment) r) (p.stamps.accepted + 1) found)
unfolding last_from
last-one p stamped rest r found accepted =
    ap (λ list. last_from (p.stamps.accepted + 1) r list found) (among-accepted p stamped rest accepted)
    ∙ ap (λ n. last_from (n + 1) r (accepted_among (stamped_after p stamped.amendment) rest) (cond (is_same (record_of stamped.amendment) r) (p.stamps.accepted + 1) found))
    (sym (counted-after p.papers p.stamps stamped.amendment))

-- the stamp of a record is the number of its last amendment
pub stamp-list : (p : StampedPapers) (list : List Stamped) (r : Record) (found : ℕ) → WellFormed p.papers → IsInStep p.papers p.stamps
    → (is_record p.papers r ≡ true → found ≡ stamp_of p.papers p.stamps r)
    → stamp_of (after_list p list).papers (after_list p list).stamps r
    ≡ cond (is_record (after_list p list).papers r) (last_from (p.stamps.accepted + 1) r (accepted_among p list) found) 0
unfolding after_list accepted_among last_from
stamp-list p [] r found well step is =
    elim (cases_Bool (is_record p.papers r)) [
      | inl known ↦ sym (is known) ∙ sym (λ t. cond (known t) found 0)
      | inr absent ↦ stamp-absent p.papers p.stamps r absent ∙ sym (λ t. cond (absent t) found 0)
    ]
stamp-list p (stamped ∷ rest) r found well step is =
    elim (accepted-or-refused p stamped) [
      | inl accepted ↦
          let allowed = (allowed-carried p stamped accepted).0 in
          let same = list-accepted p stamped rest accepted in
          (λ t. stamp_of (same t).papers (same t).stamps r)
          ∙ stamp-list (stamped_after p stamped.amendment) rest r (cond (is_same (record_of stamped.amendment) r) (p.stamps.accepted + 1) found)
          (WellFormed-after p.papers stamped.amendment well allowed)
          (in-step-after p.papers p.stamps stamped.amendment step)
          (found-after p stamped r found well step allowed is)
          ∙ sym (λ t. cond (is_record (same t).papers r) (last-one p stamped rest r found accepted t) 0)
      | inr (refusal, refused) ↦
          let same = list-refused p stamped rest refusal refused in
          (λ t. stamp_of (same t).papers (same t).stamps r)
          ∙ stamp-list p rest r found well step is
          ∙ sym (λ t. cond (is_record (same t).papers r) (last_from (p.stamps.accepted + 1) r (among-refused p stamped rest refusal refused t) found) 0)
    ]

-- at the opening each stamp is 0, and they are in step
zero-at : (n k : ℕ) → ◌≡◌ {A = ℕ} (slice_index_or (replicate n 0) k 0) 0
zero-at zero k = refl
zero-at (suc n) zero = refl
zero-at (suc n) (suc k) = zero-at n k

zero-stamp : (n : ℕ) (place : Option ℕ) → stamp_at (replicate n 0) place ≡ 0
zero-stamp n None = refl
zero-stamp n (Some k) = zero-at n k

pub stamp-opening : (m : Market) (r : Record) → stamp_of m (no_stamps m) r ≡ 0
stamp-opening m (OfStudent i) = zero-stamp (length m.students) _
stamp-opening m (OfSchool s) = zero-stamp (length m.schools) _

pub in-step-opening : (m : Market) → IsInStep m (no_stamps m)
in-step-opening m = record {
  students = length-replicate (length m.students) 0;
  schools = length-replicate (length m.schools) 0;
  students_given = given-zeros 0 (length m.students);
  schools_given = given-zeros 0 (length m.schools);
}
