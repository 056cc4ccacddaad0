-- Of the labels of a whole run one of each key is kept: they are its labels.
use Rattle.std.proofs.Common.{◌≡◌, inl, inr, refl, ap, sym, subst, ◌∙◌, ℕ, ◌+◌, ◌-◌, ◌<◌, ◌≤◌, List, [], ◌∷◌, ◌++◌, slice_set, Option, None, Some, length, get_or, nat_eq, position, All, Contains, arith}
use Rattle.std.proofs.lemmas.Bool.{cases_eq, cases_lt}
use Rattle.std.proofs.lemmas.List.{get_or_append_left, get_or_default, get_or_past, get_or_push, get_or-set_other, length-map, length-set, length_push}
use Rattle.sc_papers.specs.Market.{Market, schools_of}
use Rattle.sc_papers.specs.Key.{key_of}
use Rattle.sc_papers.specs.WellFormed.{WellFormed, WithinLimits}
use Rattle.sc_papers.specs.declared.rejection.Rejection.{Rejection}
use Rattle.sc_ledgers.specs.Cohort.{cohort, Cohort, IsRunTo}
use Rattle.sc_ledgers.specs.Course.{labels_at, labels_of}
use Rattle.sc_ledgers.specs.Known.{HasEachKey}
use Rattle.sc_ledgers.specs.Ledger.{HasAskedBy, IsExact}
use Rattle.sc_ledgers.specs.Opening.{everybody, AreLedgersOf}
use Rattle.sc_ledgers.specs.Whole.{AreWhole}
use Rattle.sc_ledgers.specs.declared.ledger.Label.{Label}
use Rattle.sc_ledgers.specs.declared.ledger.TheConstants.{NEVER}
use Rattle.sc_ledgers.proofs.Changing.{asked-later}
use Rattle.sc_ledgers.proofs.Placed.{labels-there}

module _ {n : Cohort} {segments : List (List Rejection)} {labels : ℕ → List Label} (well : WellFormed n.papers) (whole : AreWhole n segments labels) where
  asked-by : (t u j s : ℕ) → t < u → u < length segments → HasAskedBy n segments (t + 1) j s → HasAskedBy n segments u j s
  asked-by t u j s earlier within asked =
      subst (λ v. HasAskedBy n segments v j s) (omega (arith, earlier))
      (asked-later n segments (length segments) well (subst (λ k. IsRunTo n k segments) (sym whole.run.one_each) whole.run) refl (omega (arith, whole.run.one_each))
      (t + 1) (u - (t + 1)) (omega (arith, earlier, within)) j s asked)

  -- a student asks a school at one turn alone
  asked-once : (s : ℕ) (one other : Label) → Contains (labels s) one → Contains (labels s) other → one.key ≡ other.key → one.turn < other.turn → ⊥
  asked-once s one other here there keys earlier =
      let exact : (label : Label) → Contains (labels s) label → IsExact n segments s label = λ label among. whole.before.exact s label among (whole.turns s label among) in
      (exact other there).not_before
      (subst (λ j. HasAskedBy n segments other.turn j s) (ap (λ k. k.student) keys)
      (asked-by one.turn other.turn one.key.student s earlier (whole.turns s other there) (exact one here).asked))

  -- so that its key names its label
  one-label : (s : ℕ) (one other : Label) → Contains (labels s) one → Contains (labels s) other → one.key ≡ other.key → one ≡ other
  one-label s one other here there keys = elim (cases_eq one.turn other.turn) [
    | inl same ↦ λ t. record { key = keys t; turn = same t }
    | inr apart ↦ elim (cases_lt one.turn other.turn) [
      | inl earlier ↦ absurd (asked-once s one other here there keys earlier)
      | inr later ↦ absurd (asked-once s other one there here (sym keys) (omega (arith, later, apart)))
    ]
  ]

  -- and none is lost
  pub label-kept : (s : ℕ) (kept : List Label) → HasEachKey (labels s) kept → (label : Label) → Contains (labels s) label → Contains kept label
  label-kept s kept has label here =
      let (other, there, same) = has.each label here in
      subst (Contains kept) (one-label s other label (has.only other there) here same) there

  pub whole-kept : (kept : ℕ → List Label) → ((s : ℕ) → HasEachKey (labels s) (kept s)) → AreWhole n segments kept
  whole-kept kept has = record {
    run = whole.run;
    before = record {
      exact = λ s label here low. whole.before.exact s label ((has s).only label here) low;
      standing = λ t j s low stands.
          let (turn, earlier, here) = whole.before.standing t j s low stands in
          (turn, earlier, label-kept s (kept s) (has s) (record { key = key_of n.papers j s; turn = turn }) here);
    };
    turns = λ s label here. whole.turns s label ((has s).only label here);
    own = λ s label here. whole.own s label ((has s).only label here);
  }

-- what is so of the lists is so of each school's
pub school-kept : (m : Market) (lists ledgers : List (List Label)) → AreLedgersOf lists ledgers → (s : ℕ) → HasEachKey (labels_of m lists s) (labels_of m ledgers s)
school-kept m lists ledgers are s = at (position (nat_eq s) (schools_of m))
  where
    none : HasEachKey [] []
    none = record { only = λ label here. here; each = λ label here. absurd (omega (arith, here.1)) }

    at : (place : Option ℕ) → HasEachKey (labels_at lists place) (labels_at ledgers place)
    at None = none
    at (Some p) = elim (cases_lt p (length lists)) [
      | inl low ↦ are.kept p low
      | inr past ↦
          subst (λ list. HasEachKey list (get_or ledgers p [])) (sym (get_or_past lists p [] past))
          (subst (HasEachKey []) (sym (get_or_past ledgers p [] (omega (arith, past, are.one_each)))) none)
    ]

-- a turn of the papers comes, as there are fewer students than turns
pub turns-come : (m : Market) (lists : List (List Label)) (segments : List (List Rejection)) → WellFormed m → WithinLimits m → length lists ≡ length m.schools → AreWhole (cohort m everybody) segments (labels_of m lists) → All (All (λ label. label.turn < NEVER)) lists
turns-come m lists segments well limits each whole p d low j e here =
    let (s, is) = labels-there m well p (omega (arith, low, each)) in
    let label = get_or (get_or lists p d) j e in
    let among : Contains (get_or lists p d) label = (j, here, get_or_default (get_or lists p d) j label e here) in
    let turn : label.turn < length segments = whole.turns s label (subst (λ l. Contains l label) (get_or_default lists p d [] low ∙ sym (is lists)) among) in
    omega (arith, turn, whole.run.one_each, length-map m.students (λ x. x.0), limits.students)

-- the lists before a position have become ledgers, and the others are as they were
pub record AreLedgersTo (k : ℕ) (lists left ledgers : List (List Label)) : Type 0 where
  pub one_each : length ledgers ≡ k
  pub as_many : length left ≡ length lists
  pub rest : (p : ℕ) → k ≤ p → get_or left p [] ≡ get_or lists p []
  pub kept : (p : ℕ) → p < k → HasEachKey (get_or lists p []) (get_or ledgers p [])

-- the list at the position is as it was
pub list-there : (k : ℕ) (lists left ledgers : List (List Label)) (list : List Label) → AreLedgersTo k lists left ledgers → k < length left → list ≡ get_or left k list → list ≡ get_or lists k []
list-there k lists left ledgers list are low is = is ∙ get_or_default left k list [] low ∙ are.rest k (omega arith)

-- so has one more
pub ledgers-more : (k : ℕ) (lists left ledgers : List (List Label)) (list gone ledger : List Label) → AreLedgersTo k lists left ledgers → k < length left → list ≡ get_or left k list → HasEachKey list ledger → AreLedgersTo (k + 1) lists (slice_set left k gone) (ledgers ++ ledger ∷ [])
ledgers-more k lists left ledgers list gone ledger are low is has = record {
  one_each = length_push ledgers ledger ∙ omega (arith, are.one_each);
  as_many = length-set left k gone ∙ are.as_many;
  rest = λ p past. get_or-set_other left k p gone [] (omega (arith, past)) ∙ are.rest p (omega (arith, past));
  kept = λ p before. elim (cases_lt p k) [
    | inl earlier ↦ subst (HasEachKey (get_or lists p [])) (sym (get_or_append_left ledgers (ledger ∷ []) [] p (omega (arith, earlier, are.one_each)))) (are.kept p earlier)
    | inr past ↦
        let same : p ≡ k = omega (arith, before, past) in
        let taken : list ≡ get_or lists p [] = list-there k lists left ledgers list are low is ∙ ap (λ q. get_or lists q []) (sym same) in
        subst (HasEachKey (get_or lists p [])) (sym (get_or_push ledgers ledger [] p (omega (arith, same, are.one_each)))) (subst (λ l. HasEachKey l ledger) taken has)
  ];
}

-- and in the end all
pub ledgers-all : (k : ℕ) (lists left ledgers : List (List Label)) → AreLedgersTo k lists left ledgers → length left ≡ k → AreLedgersOf lists ledgers
ledgers-all k lists left ledgers are all = record {
  one_each = omega (arith, are.one_each, are.as_many, all);
  kept = λ p low. are.kept p (omega (arith, low, are.as_many, all));
}
