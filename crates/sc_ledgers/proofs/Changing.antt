-- A turn whose chain is another one than in the old run: the next turn begins as this one did.
use Rattle.std.proofs.Common.{◌≡◌, inl, inr, refl, sym, subst, ◌∙◌, ℕ, ◌≤◌, ◌<◌, ◌+◌, ◌-◌, zero, suc, Bool, List, [], ◌∷◌, ◌++◌, length, slice_get, Some, Contains, arith}
use Rattle.std.proofs.lemmas.Bool.{cases_lt, false≢true}
use Rattle.std.proofs.lemmas.List.{length_push}
use Rattle.std.proofs.lemmas.Option.{slice_get_within}
use Rattle.sc_papers.specs.Market.{students_of}
use Rattle.sc_papers.specs.WellFormed.{WellFormed}
use Rattle.sc_papers.specs.Key.{key_of}
use Rattle.sc_papers.specs.Log.{next_choice, IsValidAfter}
use Rattle.sc_papers.specs.Restriction.{joined}
use Rattle.sc_ledgers.specs.Cohort.{Cohort, cut, IsRunTo}
use Rattle.sc_papers.specs.declared.rejection.Rejection.{Rejection}
use Rattle.sc_papers.proofs.Cutting.{joined-push}
use Rattle.sc_papers.proofs.Standings.{valid-rest}
use Rattle.sc_ledgers.specs.Ledger.{log_at, AreLabelsBefore, AreLabelsFrom, AtTurn, AgreeBeside, HasAsked, HasAskedBy, StandsAt, Turns}
use Rattle.sc_ledgers.specs.declared.ledger.Label.{Label}
use Rattle.sc_ledgers.proofs.Staying.{asked-more, has_asked, log-after, log-kept, log-new, log-whole, next-untried, rejected-more, valid-turn}
use Rattle.sc_ledgers.proofs.Cohorts.{next-with, run-more}

-- who has asked a school before the turn has asked it after it
asked-then : {m n : Cohort} {old new : List (List Rejection)} {k i : ℕ} {chain : List Rejection} {labels relabelled : ℕ → List Label} {amended : ℕ → Bool} → Turns m n old new k i chain labels relabelled amended → (j s : ℕ) → HasAskedBy n new k j s → HasAskedBy n (new ++ chain ∷ []) (k + 1) j s
asked-then {m} {n} {old} {new} {k} {i} {chain} given j s asked =
    subst (λ l. HasAsked (cut n (k + 1)) l j s) (sym (log-whole new chain k given.as_many ∙ joined-push new chain))
    (asked-more (cut n (k + 1)) (joined new) chain j s (valid-rest (cut n (k + 1)) [] (joined new) chain given.settled.valid)
    (with j s (subst (λ l. HasAsked (cut n k) l j s) (log-new new k given.as_many) asked)))
  where
    with : (j s : ℕ) → HasAsked (cut n k) (joined new) j s → HasAsked (cut n (k + 1)) (joined new) j s
    with j s (inl next) = inl (next-with n k i given.well given.here (joined new) j s next)
    with j s (inr rejected) = inr rejected

-- what stands at a place of a list
slice_get-there : {X : Type 0} (xs : List X) (k : ℕ) → k < length xs → (x : X) × (slice_get xs k ≡ Some x)
slice_get-there [] k low = absurd (omega (arith, low))
slice_get-there (x ∷ xs) zero low = (x, refl)
slice_get-there (x ∷ xs) (suc k) low = slice_get-there xs k (omega (arith, low))

-- one more turn of a run
pub asked-next : (n : Cohort) (new : List (List Rejection)) (k t i : ℕ) (segment : List Rejection) → WellFormed n.papers → IsRunTo n k new → t < k → slice_get (students_of n.papers) t ≡ Some i → slice_get new t ≡ Some segment → (j s : ℕ) → HasAskedBy n new t j s → HasAskedBy n new (t + 1) j s
asked-next n new k t i segment well newer low here at j s asked =
    let valid : IsValidAfter (cut n (t + 1)) (log_at new t) segment = valid-turn n new t segment newer at in
    subst (λ l. HasAsked (cut n (t + 1)) l j s) (sym (log-after new t segment at)) (asked-more (cut n (t + 1)) (log_at new t) segment j s valid (elim asked [
      | inl next ↦ inl (next-with n t i well here (log_at new t) j s next)
      | inr rejected ↦ inr rejected
    ]))

-- the turns up to k
pub asked-later : (n : Cohort) (new : List (List Rejection)) (k : ℕ) → WellFormed n.papers → IsRunTo n k new → length new ≡ k → k ≤ length (students_of n.papers) → (t more : ℕ) → t + more ≤ k → (j s : ℕ) → HasAskedBy n new t j s → HasAskedBy n new (t + more) j s
asked-later n new k well newer as_many within t zero low j s asked = subst (λ u. HasAskedBy n new u j s) (omega arith) asked
asked-later n new k well newer as_many within t (suc more) low j s asked =
    let first = slice_get-there (students_of n.papers) t (omega (arith, low, within)) in
    let segment = slice_get-there new t (omega (arith, low, as_many)) in
    subst (λ u. HasAskedBy n new u j s) (omega arith)
    (asked-later n new k well newer as_many within (t + 1) more (omega (arith, low)) j s
    (asked-next n new k t first.0 segment.0 well newer (omega (arith, low)) first.1 segment.1 j s asked))

-- a label of an earlier turn stays
earlier-kept : {m n : Cohort} {old new : List (List Rejection)} {k i : ℕ} {chain : List Rejection} {labels relabelled : ℕ → List Label} {amended : ℕ → Bool} → Turns m n old new k i chain labels relabelled amended → (s : ℕ) (label : Label) → Contains (labels s) label → label.turn < k → HasAskedBy n new k label.key.student s → Contains (relabelled s) label
earlier-kept given s label here low asked = given.relabels.kept s label here (λ same. omega (arith, same, low)) (λ later. asked)

of_key : (n : Cohort) (new : List (List Rejection)) (u j s : ℕ) → HasAskedBy n new u j s → HasAskedBy n new u (key_of n.papers j s).student s
unfolding key_of
of_key n new u j s asked = asked

-- who stands after the turn has a label
stands-now : {m n : Cohort} {old new : List (List Rejection)} {k i : ℕ} {chain : List Rejection} {labels relabelled : ℕ → List Label} {amended : ℕ → Bool} → Turns m n old new k i chain labels relabelled amended → (j s : ℕ) → StandsAt n (new ++ chain ∷ []) (k + 1) j s → (turn : ℕ) × (turn < k + 1) × Contains (relabelled s) (record { key = key_of n.papers j s; turn = turn })
stands-now {m} {n} {old} {new} {k} {i} {chain} given j s stands =
    let after : next_choice (cut n (k + 1)) (joined new ++ chain) j ≡ Some s = subst (λ l. next_choice (cut n (k + 1)) l j ≡ Some s) (log-whole new chain k given.as_many ∙ joined-push new chain) stands in
    elim (has_asked (cut n k) (joined new) j s) [
      | inl asked ↦ elim asked [
        | inl before ↦
            let there : StandsAt n new k j s = subst (λ l. next_choice (cut n k) l j ≡ Some s) (sym (log-new new k given.as_many)) before in
            let found = given.before.standing k j s (omega arith) there in
            (found.0, omega (arith, found.1), earlier-kept given s (record { key = key_of n.papers j s; turn = found.0 }) found.2 found.1 (of_key n new k j s (inl there)))
        | inr rejected ↦ absurd (false≢true (sym (next-untried (cut n (k + 1)) (joined new ++ chain) j s after) ∙ rejected-more (joined new) chain j s rejected))
      ]
      | inr not_new ↦ (k, omega arith, given.relabels.noted j s stands (λ asked. not_new (subst (λ l. HasAsked (cut n k) l j s) (log-new new k given.as_many) asked)))
    ]

pub before-turned : {m n : Cohort} {old new : List (List Rejection)} {k i : ℕ} {chain : List Rejection} {labels relabelled : ℕ → List Label} {amended : ℕ → Bool} → Turns m n old new k i chain labels relabelled amended → AreLabelsBefore n (new ++ chain ∷ []) (k + 1) relabelled
before-turned {m} {n} {old} {new} {k} {i} {chain} {labels} {relabelled} given = record {
  exact = λ s label here low. elim (cases_lt label.turn k) [
    | inl earlier ↦
        let found = given.before.exact s label (given.relabels.others s label here (λ same. omega (arith, same, earlier))) earlier in
        record {
          asked = subst (λ l. HasAsked (cut n (label.turn + 1)) l label.key.student s) (sym (log-kept new chain (label.turn + 1) (omega (arith, earlier, given.as_many)))) found.asked;
          not_before = λ asked. found.not_before (subst (λ l. HasAsked (cut n label.turn) l label.key.student s) (log-kept new chain label.turn (omega (arith, earlier, given.as_many))) asked);
        }
    | inr now ↦ given.relabels.own s label here (omega (arith, low, now))
  ];
  standing = λ t j s low stands. elim (cases_lt t (k + 1)) [
    | inl earlier ↦
        let there : StandsAt n new t j s = subst (λ l. next_choice (cut n t) l j ≡ Some s) (log-kept new chain t (omega (arith, earlier, given.as_many))) stands in
        let found = given.before.standing t j s (omega (arith, earlier)) there in
        let asked : HasAskedBy n new (t + (k - t)) j s = asked-later n new k given.well given.newer given.as_many (omega (arith, slice_get_within (students_of n.papers) k i given.here)) t (k - t) (omega (arith, earlier)) j s (inl there) in
        (found.0, found.1, earlier-kept given s (record { key = key_of n.papers j s; turn = found.0 }) found.2 (omega (arith, found.1, earlier)) (subst (λ u. HasAskedBy n new u (key_of n.papers j s).student s) (omega (arith, earlier)) (of_key n new (t + (k - t)) j s asked)))
    | inr now ↦
        let same : t ≡ k + 1 = omega (arith, low, now) in
        let there : StandsAt n (new ++ chain ∷ []) (k + 1) j s = subst (λ u. StandsAt n (new ++ chain ∷ []) u j s) same stands in
        let found = stands-now given j s there in
        (found.0, omega (arith, found.1, same), found.2)
  ];
}

-- the old run's labels behind the turn
from-turned : {m n : Cohort} {old new : List (List Rejection)} {k i : ℕ} {chain : List Rejection} {labels relabelled : ℕ → List Label} {amended : ℕ → Bool} → Turns m n old new k i chain labels relabelled amended → AreLabelsFrom m n old (new ++ chain ∷ []) (k + 1) amended relabelled
unfolding key_of
from-turned {m} {n} {old} {new} {k} {i} {chain} given = record {
  exact = λ s label here high. given.from.exact s label (given.relabels.others s label here (λ same. omega (arith, same, high))) (omega (arith, high));
  complete = λ t j s high within other not_new stands not_yet.
      given.relabels.kept s (record { key = key_of n.papers j s; turn = t })
      (given.from.complete t j s (omega (arith, high)) within other (λ asked. not_new (asked-then given j s asked)) stands not_yet)
      (λ same. omega (arith, same, high)) (λ asked. absurd (not_new asked));
}

-- a turn of another chain: what is known before the next one, but for whom the logs agree on
pub turn-changes : {m n : Cohort} {old new : List (List Rejection)} {k i : ℕ} {chain : List Rejection} {labels relabelled : ℕ → List Label} {marked aside amended : ℕ → Bool} → Turns m n old new k i chain labels relabelled amended → AgreeBeside (cut m (k + 1)) (cut n (k + 1)) (log_at old (k + 1)) (joined (new ++ chain ∷ [])) marked aside → AtTurn m n old (new ++ chain ∷ []) (k + 1) relabelled marked aside amended
turn-changes {m} {n} {old} {new} {k} {i} {chain} given logs = record {
  newer = run-more n k new chain given.newer given.settled;
  as_many = omega (arith, length_push new chain, given.as_many);
  logs = logs;
  before = before-turned given;
  from = from-turned given;
}
