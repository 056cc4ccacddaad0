-- One more entry of a log.
use Rattle.std.proofs.Common.{◌≡◌, inl, inr, refl, ap, sym, subst, ◌∙◌, ℕ, ◌+◌, nat_eq, cond, List, [], ◌∷◌, ◌++◌, length, Some, None, slice_get, arith}
use Rattle.std.specs.Option.{option_and_then}
use Rattle.std.proofs.lemmas.Bool.{cases_Bool, cases_eq, eq-eqb, ne_eqb, cond-true, cond-false, false≢true}
use Rattle.std.proofs.lemmas.Option.{none-some}
use Rattle.sc_papers.specs.Log.{next_choice, IsValidEntry, IsValidLog}
use Rattle.sc_papers.specs.Market.{Market, choices_of}
use Rattle.sc_papers.specs.declared.rejection.Rejection.{Rejection}
use Rattle.sc_papers.proofs.Rejections.{next-same}
use Rattle.sc_papers.proofs.Standings.{next-moves}
use Rattle.sc_audit.specs.AuditView.{AuditView, stand_of, next_of, keys_at, waiting_at, waiting_rank, KeepsBest, KeepsBestAtEach, MovesTo, Follows}
use Rattle.sc_audit.proofs.Tables.{stander-among}
use Rattle.sc_audit.proofs.Keeping.{keeps-still}
use Rattle.sc_audit.proofs.Entries.{waiting-rivals, kept-rivals}
use Rattle.sc_audit.proofs.Pasts.{Stands, stands-from, Waits, waits-next, waits-aside, waits-not, aside-past}

module _ {m : Market} {l : AuditView} {i s rank : ℕ} (waits : Waits m l i s rank) where
  -- the student leaves
  module _ (new : AuditView) (keeps_best : KeepsBestAtEach m l) (kept : new.kept ≡ l.kept) (seats : new.seats ≡ l.seats) (long : length new.stands ≡ length l.stands) (stands : (j : ℕ) → stand_of m new.stands j ≡ cond (nat_eq j i) None (stand_of m l.stands j)) where
    pub left-nowhere : next_of m new.stands i ≡ None
    left-nowhere = ap (option_and_then (slice_get (choices_of m i))) (stands i ∙ cond-true (nat_eq i i) None (stand_of m l.stands i) (eq-eqb i i refl))

    pub left-next : (j : ℕ) → (j ≡ i → ⊥) → next_of m new.stands j ≡ next_of m l.stands j
    left-next j apart = ap (option_and_then (slice_get (choices_of m j))) (stands j ∙ cond-false (nat_eq j i) None (stand_of m l.stands j) (ne_eqb j i apart))

    pub left-best : KeepsBestAtEach m new
    left-best = record {
      well_formed = keeps_best.well_formed;
      within_limits = keeps_best.within_limits;
      stands = long ∙ keeps_best.stands;
      schools = ap length kept ∙ keeps_best.schools;
      seats = seats ∙ keeps_best.seats;
      is_kept = keeps_best.is_kept;
      each = λ t. subst (λ k. KeepsBest m (next_of m new.stands) keeps_best.is_kept t (keys_at m k t)) (sym kept)
          (keeps-still m (next_of m l.stands) (next_of m new.stands) keeps_best.is_kept keeps_best.is_kept t (keys_at m l.kept t)
          (λ j at.
          let apart : j ≡ i → ⊥ = λ same. none-some t (sym left-nowhere ∙ ap (next_of m new.stands) (sym same) ∙ at) in
          (sym (left-next j apart) ∙ at, refl))
          (λ j at held.
          let apart : j ≡ i → ⊥ = λ same. false≢true (sym (waits-aside waits keeps_best) ∙ ap keeps_best.is_kept (sym same) ∙ held) in
          (left-next j apart ∙ at, held))
          (keeps_best.each t));
    }

-- a valid entry
pub taken-valid : (m : Market) (log : List Rejection) (l : AuditView) (e : Rejection) (rank : ℕ) → Follows m log l → Waits m l e.student e.school rank → IsValidEntry m log e
taken-valid m log l e rank follows waits = record {
  next = follows.next e.student ∙ waits-next waits;
  full = waiting-rivals m (next_of m l.stands) follows.keeps_best.is_kept e.school (keys_at m l.kept e.school) (follows.keeps_best.each e.school) log follows.next e.student (waits-next waits) (waits-aside waits follows.keeps_best);
}

pub taken-follows : (m : Market) (log : List Rejection) (l mid new : AuditView) (e : Rejection) (rank : ℕ) → IsValidLog m log → Follows m log l → Waits m l e.student e.school rank
    → ((j : ℕ) → (j ≡ e.student → ⊥) → next_of m mid.stands j ≡ next_of m l.stands j) → MovesTo m mid e.student (rank + 1) new → Follows m (log ++ e ∷ []) new
taken-follows m log l mid new e rank valid follows waits left moves = record {
  keeps_best = moves.keeps_best;
  next = λ j. elim (cases_eq j e.student) [
    | inl same ↦
        ap (next_choice m (log ++ e ∷ [])) same
        ∙ next-moves m follows.keeps_best.well_formed log e rank valid (taken-valid m log l e rank follows waits) waits.at
        ∙ sym moves.own ∙ ap (next_of m new.stands) (sym same)
    | inr apart ↦ next-same m log e j (λ same. apart (sym same)) ∙ follows.next j ∙ sym (left j apart) ∙ sym (moves.others j apart)
  ];
}

-- an entry that isn't
pub not-taken : (m : Market) (log : List Rejection) (l : AuditView) (e : Rejection) → waiting_rank (waiting_at m l e.student) e.school ≡ None → Follows m log l → IsValidEntry m log e → ⊥
not-taken m log l e none follows valid =
    let next : next_of m l.stands e.student ≡ Some e.school = sym (follows.next e.student) ∙ valid.next in
    let there : Stands m l e.student e.school = stands-from m l e.student e.school next in
    elim (cases_Bool (follows.keeps_best.is_kept e.student)) [
      | inl held ↦ omega (
        arith,
        valid.full,
        kept-rivals m (next_of m l.stands) follows.keeps_best.is_kept e.school (keys_at m l.kept e.school) (follows.keeps_best.each e.school) log follows.next e.student (stander-among m l.stands e.student there.rank there.is) next held,
      )
      | inr aside ↦ waits-not m l e.student e.school there.rank none (record {
        is = there.is;
        at = there.at;
        past = aside-past m l follows.keeps_best e.student e.school next aside;
      })
    ]
