-- The rewind point: what is known before the first turn that is looked at again.
use Rattle.std.proofs.Common.{◌≡◌, inl, inr, refl, ap, sym, subst, ◌∙◌, ℕ, ◌≤◌, ◌+◌, ◌-◌, Bool, false, List, length, take, Contains, arith}
use Rattle.std.proofs.lemmas.Bool.{cases_lt}
use Rattle.std.proofs.lemmas.List.{length-take-le, take-take}
use Rattle.sc_papers.specs.Key.{key_of}
use Rattle.sc_papers.specs.Log.{is_rejected, next_choice}
use Rattle.sc_papers.specs.Restriction.{joined}
use Rattle.sc_ledgers.specs.Cohort.{Cohort, cut, IsRunTo}
use Rattle.sc_papers.specs.declared.rejection.Rejection.{Rejection}
use Rattle.sc_ledgers.specs.Ledger.{log_at, AreLabelsBefore, AreLabelsFrom, AtTurn, HasAskedBy, IsExact, StandsAt, StartsAt}
use Rattle.sc_ledgers.specs.declared.ledger.Label.{Label}
use Rattle.sc_ledgers.proofs.Changing.{asked-later}

-- the log of the first turns
log-taken : (old : List (List Rejection)) (t k : ℕ) → t ≤ k → log_at (take k old) t ≡ log_at old t
log-taken old t k low = ap joined (take-take t k old low)

-- who asked, and who stands, up to the point
asked-taken : {m n : Cohort} {old : List (List Rejection)} {k : ℕ} {labels started : ℕ → List Label} {marked aside amended : ℕ → Bool} → StartsAt m n old k labels started marked aside amended → (t j s : ℕ) → t ≤ k → HasAskedBy m old t j s → HasAskedBy n (take k old) t j s
asked-taken {m} {n} {old} {k} given t j s low (inl next) = inl (ap (λ l. next_choice (cut n t) l j) (log-taken old t k low) ∙ given.next t j (log_at old t) low ∙ next)
asked-taken {m} {n} {old} {k} given t j s low (inr rejected) = inr (ap (λ l. is_rejected l j s) (log-taken old t k low) ∙ rejected)

taken-asked : {m n : Cohort} {old : List (List Rejection)} {k : ℕ} {labels started : ℕ → List Label} {marked aside amended : ℕ → Bool} → StartsAt m n old k labels started marked aside amended → (t j s : ℕ) → t ≤ k → HasAskedBy n (take k old) t j s → HasAskedBy m old t j s
taken-asked {m} {n} {old} {k} given t j s low (inl next) = inl (sym (given.next t j (log_at old t) low) ∙ ap (λ l. next_choice (cut n t) l j) (sym (log-taken old t k low)) ∙ next)
taken-asked {m} {n} {old} {k} given t j s low (inr rejected) = inr (ap (λ l. is_rejected l j s) (sym (log-taken old t k low)) ∙ rejected)

kept-key : {m n : Cohort} {old : List (List Rejection)} {k : ℕ} {labels started : ℕ → List Label} {marked aside amended : ℕ → Bool} → StartsAt m n old k labels started marked aside amended → (j s turn : ℕ) → amended j ≡ false → Contains (labels s) (record { key = key_of m.papers j s; turn = turn }) → Contains (started s) (record { key = key_of m.papers j s; turn = turn })
unfolding key_of
kept-key {m} given j s turn other here = given.kept s (record { key = key_of m.papers j s; turn = turn }) here other

exact_key : (m : Cohort) (old : List (List Rejection)) (j s turn : ℕ) → IsExact m old s (record { key = key_of m.papers j s; turn = turn }) → HasAskedBy m old (turn + 1) j s
unfolding key_of
exact_key m old j s turn exact = exact.asked

before-start : {m n : Cohort} {old : List (List Rejection)} {k : ℕ} {labels started : ℕ → List Label} {marked aside amended : ℕ → Bool} → StartsAt m n old k labels started marked aside amended → AreLabelsBefore n (take k old) k started
before-start {m} {n} {old} {k} {labels} {started} {marked} {aside} {amended} given = record {
  exact = λ s label here low.
      let found = given.whole.exact s label (given.only s label here) (given.turns s label (given.only s label here)) in
      record {
        asked = asked-taken given (label.turn + 1) label.key.student s (omega (arith, low)) found.asked;
        not_before = λ asked. found.not_before (taken-asked given label.turn label.key.student s (omega (arith, low)) asked);
      };
  standing = λ t j s low stands.
      let there : StandsAt m old t j s = sym (given.next t j (log_at old t) low) ∙ ap (λ l. next_choice (cut n t) l j) (sym (log-taken old t k low)) ∙ stands in
      let found = given.whole.standing t j s (omega (arith, low, given.within)) there in
      let other = given.others t j s low there in (
        found.0,
        found.1,
        subst (λ key. Contains (started s) (record { key = key; turn = found.0 })) (sym (given.keys j s other))
            (kept-key given j s found.0 other found.2),
      );
}

-- whoever asks at a turn from the point on, and stands after it, has a label of that turn
from-start : {m n : Cohort} {old : List (List Rejection)} {k : ℕ} {labels started : ℕ → List Label} {marked aside amended : ℕ → Bool} → StartsAt m n old k labels started marked aside amended → AreLabelsFrom m n old (take k old) k amended started
from-start {m} {n} {old} {k} {labels} {started} given = record {
  exact = λ s label here high.
      let low = given.turns s label (given.only s label here) in
      (low, given.whole.exact s label (given.only s label here) low);
  complete = λ t j s high within other not_new stands not_yet.
      let found = given.whole.standing (t + 1) j s (omega (arith, within)) stands in
      let whole : IsRunTo m (length old) old = subst (λ k. IsRunTo m k old) (sym given.older.one_each) given.older in
      let asked : HasAskedBy m old (found.0 + 1) j s = exact_key m old j s found.0 (given.whole.exact s (record { key = key_of m.papers j s; turn = found.0 }) found.2 (omega (arith, found.1, within))) in
      let now : found.0 ≡ t = elim (cases_lt found.0 t) [
        | inl earlier ↦ absurd (not_yet (subst (λ u. HasAskedBy m old u j s) (omega (arith, earlier))
            (asked-later m old (length old) given.well whole refl (omega (arith, given.older.one_each)) (found.0 + 1) (t - (found.0 + 1)) (omega (arith, earlier, within)) j s asked)))
        | inr later ↦ omega (arith, later, found.1)
      ] in
      subst (λ key. Contains (started s) (record { key = key; turn = t })) (sym (given.keys j s other))
      (subst (λ u. Contains (started s) (record { key = key_of m.papers j s; turn = u })) now (kept-key given j s found.0 other found.2));
}

-- the first turn that is looked at again
pub turn-starts : {m n : Cohort} {old : List (List Rejection)} {k : ℕ} {labels started : ℕ → List Label} {marked aside amended : ℕ → Bool} → StartsAt m n old k labels started marked aside amended → AtTurn m n old (take k old) k started marked aside amended
turn-starts {m} {n} {old} {k} given = record {
  newer = given.newer;
  as_many = length-take-le k old given.within;
  logs = record {
    alike = λ j s beside. refl;
    old = λ j s is next. given.apart j s is next;
    new = λ j s is next. given.apart j s is (sym (given.next k j (log_at old k) (omega arith)) ∙ next);
  };
  before = before-start given;
  from = from-start given;
}
