-- A chain that goes by labels begins, and ends.
use Rattle.std.proofs.Common.{◌≡◌, inl, inr, ap, sym, subst, ◌∙◌, ℕ, ◌≤◌, ◌<◌, ◌+◌, ◌-◌, ◌==◌, ◌&&◌, nat_eq, Bool, true, false, List, length, get_or, take, slice_get, None, Some, Contains, arith}
use Rattle.std.specs.List.{IsDistinct, list_any}
use Rattle.std.proofs.lemmas.Bool.{cases_lt, cond-true, eq-eqb, eqb-true, false≢true, false_from_ne_true}
use Rattle.std.proofs.lemmas.Option.{get_or_from_slice_get, slice_get_within}
use Rattle.std.proofs.lemmas.List.Folds.{list_any_none}
use Rattle.std.proofs.lemmas.List.{get_or-take, get_or_default, length-take}
use Rattle.std.proofs.lemmas.Map.Keys.{apart_from_distinct}
use Rattle.sc_papers.specs.Market.{Market, student_of, students_of, zone_at}
use Rattle.sc_papers.specs.WellFormed.{WellFormed}
use Rattle.sc_papers.specs.Key.{key_of}
use Rattle.sc_papers.specs.Log.{next_choice, IsSettled}
use Rattle.sc_papers.specs.Restriction.{joined, is_among_first, restricted}
use Rattle.sc_ledgers.specs.Cohort.{Cohort, cut, has_entered, IsRunTo}
use Rattle.sc_papers.specs.Chain.{InChain}
use Rattle.sc_papers.specs.declared.rejection.Rejection.{Rejection}
use Rattle.sc_papers.proofs.Chain.{chain-begins}
use Rattle.sc_papers.proofs.Restriction.{student-restricted}
use Rattle.sc_papers.proofs.Rewinding.{key_by, key-by}
use Rattle.sc_papers.proofs.Subsets.{next-passes}
use Rattle.sc_ledgers.specs.Ledger.{AreLabelsBefore, HasAsked, HasAskedBy, IsAsking, StandsAt}
use Rattle.sc_ledgers.specs.declared.ledger.Label.{Label}
use Rattle.sc_ledgers.proofs.Changing.{asked-later}
use Rattle.sc_ledgers.proofs.Others.{others-begin}
use Rattle.sc_ledgers.proofs.Staying.{log-new}
use Rattle.sc_ledgers.proofs.Cohorts.{cut-entered, cut-one, entered-more, first-students, next-with, next-without, run-settled}

-- a student's key among some of the students
pub key-within : (m : Market) (test : ℕ → Bool) (j s : ℕ) → test j ≡ true → key_of (restricted m test) j s ≡ key_of m j s
unfolding restricted
key-within m test j s kept =
    key-by (restricted m test) j s
    ∙ ap (λ found. key_by m.seed (zone_at m s) found j s) (student-restricted m test j ∙ cond-true (test j) (student_of m j) None kept)
    ∙ sym (key-by m j s)

-- and among the first ones, of one who has a next choice there
pub key-first : (m : Cohort) (k j s t : ℕ) (log : List Rejection) → WellFormed m.papers → next_choice (cut m k) log j ≡ Some t → key_of (cut m k) j s ≡ key_of m.papers j s
key-first m k j s t log well next =
    ap (λ p. key_of p j s) (cut-entered m k) ∙ key-within m.papers (has_entered m k) j s (next-passes (first-students m k well) log j t next)

-- whoever stands at a place of a list without repeats is not among those before
apart-before : (xs : List ℕ) (k i : ℕ) → IsDistinct nat_eq xs → slice_get xs k ≡ Some i → list_any (λ j. j == i) (take k xs) ≡ false
apart-before xs k i distinct here =
    list_any_none (λ j. j == i) (take k xs) (λ j d low.
    let below : j < k = omega (arith, low, length-take k xs) in
    let apart = apart_from_distinct nat_eq xs j k i distinct below (slice_get_within xs k i here) in
    false_from_ne_true (get_or (take k xs) j d == i) (λ same.
    let is : get_or xs j d ≡ i = sym (get_or-take k xs j d below) ∙ eqb-true (get_or (take k xs) j d) i same in
    false≢true (sym apart ∙ eq-eqb (get_or xs j i) (get_or xs k i) (get_or_default xs j i d (omega (arith, below, slice_get_within xs k i here)) ∙ is ∙ sym (get_or_from_slice_get xs k i i here)))))

-- the student of a turn is not among those before
pub new-student : (m : Market) (k i : ℕ) → WellFormed m → slice_get (students_of m) k ≡ Some i → is_among_first m k i ≡ false
new-student m k i well here = apart-before (students_of m) k i well.students_differ here

-- nor has entered
pub not-yet : (n : Cohort) (k i : ℕ) → WellFormed n.papers → slice_get (students_of n.papers) k ≡ Some i → has_entered n k i ≡ false
not-yet n k i well here = ap (λ b. b && n.enters i) (new-student n.papers k i well here)

pub not_now : (t u : ℕ) → (t ≡ u → ⊥) → t ≤ u → t < u
not_now t u apart low = elim (cases_lt t u) [ inl less ↦ less | inr more ↦ absurd (apart (omega (arith, low, more))) ]

-- who has a label of a turn before has asked the school by now
pub asked-by : (n : Cohort) (new : List (List Rejection)) (k i : ℕ) (labels : ℕ → List Label) → WellFormed n.papers → slice_get (students_of n.papers) k ≡ Some i → IsRunTo n k new → length new ≡ k → AreLabelsBefore n new k labels → (s : ℕ) (label : Label) → Contains (labels s) label → label.turn < k → HasAskedBy n new k label.key.student s
asked-by n new k i labels well here newer as_many before s label at earlier =
    let after : ℕ = label.turn + 1 in
    subst (λ u. HasAskedBy n new u label.key.student s) (omega (arith, earlier))
    (asked-later n new k well newer as_many (omega (arith, slice_get_within (students_of n.papers) k i here)) after (k - after) (omega (arith, earlier)) label.key.student s (before.exact s label at earlier).asked)

-- a chain begins, by the labels up to a turn, all of which are of turns before
pub asks-from : (n : Cohort) (new : List (List Rejection)) (k i t : ℕ) (labels : ℕ → List Label) → WellFormed n.papers → slice_get (students_of n.papers) k ≡ Some i → n.enters i ≡ true → IsRunTo n k new → length new ≡ k → AreLabelsBefore n new k labels → k ≤ t + 1 → ((s : ℕ) (label : Label) → Contains (labels s) label → label.turn ≤ t → label.turn < k) → IsAsking (cut n (k + 1)) (joined new) i t labels
asks-from n new k i t labels well here turn newer as_many before enough earlier =
    let small = first-students n k well in
    let large = first-students n (k + 1) well in
    let wider : (j : ℕ) → has_entered n k j ≡ true → has_entered n (k + 1) j ≡ true = λ j kept. entered-more n k i j here kept in
    let settled : IsSettled (cut n k) (joined new) = run-settled n k new newer in
    record {
      chain = subst (λ p. InChain p (joined new) i) (sym (cut-one n k i here turn)) (chain-begins n.papers (has_entered n k) i (joined new) (subst (λ p. IsSettled p (joined new)) (cut-entered n k) settled));
      stays = others-begin small large wider (joined new) i (not-yet n k i well here) settled.valid;
      asked = λ s label at low.
          let by_k = asked-by n new k i labels well here newer as_many before s label at (earlier s label at low) in
          elim (subst (λ l. HasAsked (cut n k) l label.key.student s) (log-new new k as_many) by_k) [
            | inl next ↦ inl (next-with n k i well here (joined new) label.key.student s next)
            | inr rejected ↦ inr rejected
          ];
      standing = λ j s next other.
          let there : StandsAt n new k j s = subst (λ l. next_choice (cut n k) l j ≡ Some s) (sym (log-new new k as_many)) (next-without n k i well here (joined new) j s other next) in
          let found = before.standing k j s (omega arith) there in
          (found.0, omega (arith, found.1, enough), subst (λ key. Contains (labels s) (record { key = key; turn = found.0 })) (sym (key-first n (k + 1) j s s (joined new) well next)) found.2);
    }

-- where no label is of this turn
pub begins-asking : (n : Cohort) (new : List (List Rejection)) (k i : ℕ) (labels : ℕ → List Label) → WellFormed n.papers → slice_get (students_of n.papers) k ≡ Some i → n.enters i ≡ true → IsRunTo n k new → length new ≡ k → AreLabelsBefore n new k labels → ((s : ℕ) (label : Label) → Contains (labels s) label → label.turn ≡ k → ⊥) → IsAsking (cut n (k + 1)) (joined new) i k labels
begins-asking n new k i labels well here turn newer as_many before none =
    asks-from n new k i k labels well here turn newer as_many before (omega arith) (λ s label at low. not_now label.turn k (none s label at) low)
