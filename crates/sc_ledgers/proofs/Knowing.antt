-- Labels, one by one.
use Rattle.std.proofs.Common.{◌≡◌, ◌⊎◌, inl, inr, ap, sym, subst, ℕ, zero, suc, ◌<◌, ◌≤◌, true, false, nat_le, cond, Bool, List, [], ◌∷◌, ◌++◌, length, take, drop, get_or, All, Contains, arith}
use Rattle.std.proofs.lemmas.Bool.{cases_lt, cond-true, cond-false}
use Rattle.std.proofs.lemmas.Bool.Decides.{nat_tests}
use Rattle.std.proofs.lemmas.List.Elements.{All-cons, All-head, All-nil, All-tail}
use Rattle.sc_papers.specs.Key.{is_before}
use Rattle.sc_papers.specs.declared.key.Key.{Key}
use Rattle.sc_papers.proofs.Counting.{contains-cons, contains-head, contains-tail}
use Rattle.sc_seats.specs.Roll.{IsAscending}
use Rattle.sc_ledgers.specs.Known.{known, IsByKey}
use Rattle.sc_ledgers.specs.declared.ledger.Label.{Label}

le_true : (t turn : ℕ) → t ≤ turn → nat_le t turn ≡ true
le_true t turn low = grind (arith, nat_tests)

le_false : (t turn : ℕ) → turn < t → nat_le t turn ≡ false
le_false t turn high = grind (arith, nat_tests)

-- a label that is known, and its key
cons-known : (turn : ℕ) (label : Label) (labels : List Label) (key : Key) → Contains (known turn (label ∷ labels)) key → ((label.turn ≤ turn) × (label.key ≡ key)) ⊎ Contains (known turn labels) key
cons-known turn label labels key here = elim (cases_lt turn label.turn) [
  | inl later ↦ inr (subst (λ l. Contains l key) (cond-false (nat_le label.turn turn) (label.key ∷ known turn labels) (known turn labels) (le_false label.turn turn later)) here)
  | inr asked ↦
      elim (contains-cons label.key (known turn labels) key (subst (λ l. Contains l key) (cond-true (nat_le label.turn turn) (label.key ∷ known turn labels) (known turn labels) (le_true label.turn turn asked)) here)) [
        | inl same ↦ inl (asked, same)
        | inr behind ↦ inr behind
      ]
]

pub known-label : (turn : ℕ) (labels : List Label) (key : Key) → Contains (known turn labels) key → (label : Label) × Contains labels label × (label.key ≡ key) × (label.turn ≤ turn)
known-label turn [] key here = absurd (omega (arith, here.1))
known-label turn (label ∷ labels) key here = elim (cons-known turn label labels key here) [
  | inl (asked, same) ↦ (label, contains-head label labels, same, asked)
  | inr behind ↦
      let found = known-label turn labels key behind in
      (found.0, contains-tail label labels found.0 found.1, found.2, found.3)
]

pub label-known : (turn : ℕ) (labels : List Label) (label : Label) → Contains labels label → label.turn ≤ turn → Contains (known turn labels) label.key
label-known turn [] label here asked = absurd (omega (arith, here.1))
label-known turn (first ∷ labels) label here asked = elim (contains-cons first labels label here) [
  | inl same ↦
      subst (λ l. Contains l label.key) (sym (cond-true (nat_le first.turn turn) (first.key ∷ known turn labels) (known turn labels) (le_true first.turn turn (subst (λ l. l.turn ≤ turn) (sym same) asked))))
      (subst (λ l. Contains (first.key ∷ known turn labels) l.key) same (contains-head first.key (known turn labels)))
  | inr behind ↦ behind-known turn first labels label (label-known turn labels label behind asked)
]
  where
    behind-known : (turn : ℕ) (first : Label) (labels : List Label) (label : Label) → Contains (known turn labels) label.key → Contains (known turn (first ∷ labels)) label.key
    behind-known turn first labels label there = elim (cases_lt turn first.turn) [
      | inl later ↦ subst (λ l. Contains l label.key) (sym (cond-false (nat_le first.turn turn) (first.key ∷ known turn labels) (known turn labels) (le_false first.turn turn later))) there
      | inr now ↦ subst (λ l. Contains l label.key) (sym (cond-true (nat_le first.turn turn) (first.key ∷ known turn labels) (known turn labels) (le_true first.turn turn now))) (contains-tail first.key (known turn labels) label.key there)
    ]

-- what is so of all labels' keys is so of those that are known
all-known : (P : Key → Type 0) (turn : ℕ) (labels : List Label) → All (λ label. P label.key) labels → All P (known turn labels)
all-known P turn [] all = All-nil P
all-known P turn (label ∷ labels) all =
    one (nat_le label.turn turn) (All-head (λ l. P l.key) label labels all) (all-known P turn labels (All-tail (λ l. P l.key) label labels all))
  where
    one : (b : Bool) → P label.key → All P (known turn labels) → All P (cond b (label.key ∷ known turn labels) (known turn labels))
    one true first rest = All-cons P label.key (known turn labels) first rest
    one false first rest = rest

pub known-ascending : (turn : ℕ) (labels : List Label) → IsByKey labels → IsAscending (known turn labels)
known-ascending turn [] up = tt
known-ascending turn (label ∷ labels) up =
    one (nat_le label.turn turn) (all-known (λ later. is_before label.key later ≡ true) turn labels up.0) (known-ascending turn labels up.1)
  where
    one : (b : Bool) → All (λ later. is_before label.key later ≡ true) (known turn labels) → IsAscending (known turn labels) → IsAscending (cond b (label.key ∷ known turn labels) (known turn labels))
    one true first rest = (first, rest)
    one false first rest = rest

-- the known keys parted at one
pub known-at : (turn : ℕ) (labels : List Label) (at : ℕ) (d : Label) → at < length labels → (get_or labels at d).turn ≤ turn → known turn labels ≡ known turn (take at labels) ++ (get_or labels at d).key ∷ known turn (drop (suc at) labels)
known-at turn [] at d low asked = absurd (omega (arith, low))
known-at turn (label ∷ labels) zero d low asked = cond-true (nat_le label.turn turn) (label.key ∷ known turn labels) (known turn labels) (le_true label.turn turn asked)
known-at turn (label ∷ labels) (suc at) d low asked =
    one (nat_le label.turn turn) label.key (known turn labels) (known turn (take at labels)) ((get_or labels at d).key ∷ known turn (drop (suc at) labels)) (known-at turn labels at d (omega (arith, low)) asked)
  where
    one : (b : Bool) (key : Key) (whole front rest : List Key) → whole ≡ front ++ rest → cond b (key ∷ whole) whole ≡ cond b (key ∷ front) front ++ rest
    one true key whole front rest same = ap (λ l. key ∷ l) same
    one false key whole front rest same = same
