-- What a search finds among keys in order, and what an edit at that place does.
use Rattle.std.proofs.Common.{◌≡◌, inl, inr, ap, sym, subst, ◌∙◌, ℕ, zero, suc, ◌<◌, ◌≤◌, true, List, [], ◌∷◌, length, get_or, All, Result, Ok, Err, IfOk, IfErr, arith}
use Rattle.std.specs.List.{insert, remove}
use Rattle.std.specs.List.Sorted.{IsSearchInRange, IsBinarySearchResult, IsNonDecreasingBy}
use Rattle.std.specs.Ordering.{ordering_index}
use Rattle.std.proofs.lemmas.Bool.{cases_eq, cases_lt, false≢true}
use Rattle.std.proofs.lemmas.List.Sorted.{IsNonDecreasingBy-from_default}
use Rattle.std.proofs.lemmas.List.Elements.{All-cons, All-head, All-nil, All-tail}
use Rattle.sc_papers.specs.Key.{is_before, key_cmp}
use Rattle.sc_papers.specs.declared.key.Key.{Key}
use Rattle.sc_papers.proofs.Priority.{before-irrefl, cmp-equal}
use Rattle.sc_seats.proofs.Order.{before-from_greater, before-from_less, index-rises}
use Rattle.sc_ledgers.specs.Known.{AreInOrder, IsGapIn}

-- of two keys the first is ahead
order-places : (keys : List Key) (i j : ℕ) (d : Key) → AreInOrder keys → i < j → j < length keys → is_before (get_or keys i d) (get_or keys j d) ≡ true
order-places [] i j d up below here = absurd (omega (arith, here))
order-places (key ∷ keys) zero zero d up below here = absurd (omega (arith, below))
order-places (key ∷ keys) zero (suc j) d up below here = up.0 j d (omega (arith, here))
order-places (key ∷ keys) (suc i) zero d up below here = absurd (omega (arith, below))
order-places (key ∷ keys) (suc i) (suc j) d up below here = order-places keys i j d up.1 (omega (arith, below)) (omega (arith, here))

-- so that a key stands at one place alone
apart : (keys : List Key) (i j : ℕ) (d : Key) → AreInOrder keys → i < j → j < length keys → get_or keys i d ≡ get_or keys j d → ⊥
apart keys i j d up below here same =
    false≢true (sym (before-irrefl (get_or keys j d)) ∙ ap (λ k. is_before k (get_or keys j d)) (sym same) ∙ order-places keys i j d up below here)

pub one-place : (keys : List Key) (i j : ℕ) (d : Key) → AreInOrder keys → i < length keys → j < length keys → get_or keys i d ≡ get_or keys j d → i ≡ j
one-place keys i j d up low here same = elim (cases_eq i j) [
  | inl is ↦ is
  | inr other ↦ elim (cases_lt i j) [
    | inl before ↦ absurd (apart keys i j d up before here same)
    | inr after ↦ absurd (apart keys j i d up (omega (arith, after, other)) low (sym same))
  ]
]

-- and none stands where a key has its gap
pub gap-apart : (keys : List Key) (at i : ℕ) (key d : Key) → IsGapIn keys key at → i < length keys → get_or keys i d ≡ key → ⊥
gap-apart keys at i key d gap low is = elim (cases_lt i at) [
  | inl before ↦ false≢true (sym (before-irrefl key) ∙ ap (λ k. is_before k key) (sym is) ∙ gap.ahead i d before)
  | inr behind ↦ false≢true (sym (before-irrefl key) ∙ ap (is_before key) (sym is) ∙ gap.behind i d behind low)
]

-- a key stands at a place
abbrev pub IsFound : List Key → Key → ℕ → Type 0
IsFound keys key at = (at < length keys) × ((d : Key) → get_or keys at d ≡ key)

-- the comparisons with a key rise along the others, as a binary search asks
comparisons_rise : (keys : List Key) (key : Key) → AreInOrder keys → IsNonDecreasingBy (λ other. ordering_index (key_cmp other key)) keys
comparisons_rise keys key up = IsNonDecreasingBy-from_default (λ other. ordering_index (key_cmp other key)) keys key
    (λ i j low here. elim (cases_lt i j) [
      | inl below ↦ index-rises (get_or keys i key) (get_or keys j key) key (order-places keys i j key up below here)
      | inr above ↦
          let same : i ≡ j = omega (arith, low, above) in
          subst (λ k. ordering_index (key_cmp (get_or keys i key) key) ≤ ordering_index (key_cmp (get_or keys k key) key)) same (omega arith)
    ])

-- a binary search ends at the key, or at the gap for it
pub searched : (keys : List Key) (key : Key) → AreInOrder keys → (r : Result ℕ ℕ) → IsSearchInRange r (length keys) → IsBinarySearchResult (λ other. key_cmp other key) keys r → record { found : IfOk r (IsFound keys key); absent : IfErr r (IsGapIn keys key) }
searched keys key up (Ok at) in_range equal = record { found = (in_range, λ d. (cmp-equal (get_or keys at d) key).0 (equal d)); absent = tt }
searched keys key up (Err at) in_range parted = record {
  found = tt;
  absent = record {
    within = in_range;
    ahead = λ j d low. before-from_less (get_or keys j d) key ((parted (comparisons_rise keys key up)).0 j d (omega arith) low);
    behind = λ j d high here. before-from_greater (get_or keys j d) key ((parted (comparisons_rise keys key up)).1 j d high here);
  };
}

-- what is so of each key and of one more is so after it is put in
all-insert : (P : Key → Type 0) (keys : List Key) (at : ℕ) (key : Key) → All P keys → P key → All P (insert keys at key)
all-insert P keys zero key all one = All-cons P key keys one all
all-insert P [] (suc at) key all one = All-cons P key [] one (All-nil P)
all-insert P (first ∷ keys) (suc at) key all one =
    All-cons P first (insert keys at key) (All-head P first keys all) (all-insert P keys at key (All-tail P first keys all) one)

-- one more key in its gap
pub order-insert : (keys : List Key) (at : ℕ) (key : Key) → AreInOrder keys → IsGapIn keys key at → AreInOrder (insert keys at key)
order-insert keys zero key up gap = ((λ k d here. gap.behind k d (omega arith) here), up)
order-insert [] (suc at) key up gap = (All-nil (λ later. is_before key later ≡ true), tt)
order-insert (first ∷ keys) (suc at) key up gap = (
  all-insert (λ later. is_before first later ≡ true) keys at key up.0 (gap.ahead 0 first (omega arith)),
  order-insert keys at key up.1 (record {
    within = omega (arith, gap.within);
    ahead = λ k d low. gap.ahead (suc k) d (omega (arith, low));
    behind = λ k d high here. gap.behind (suc k) d (omega (arith, high)) (omega (arith, here));
  }),
)

-- the keys without one
all-remove : (P : Key → Type 0) (keys : List Key) (at : ℕ) → All P keys → All P (remove keys at)
all-remove P [] zero all = all
all-remove P [] (suc at) all = all
all-remove P (first ∷ keys) zero all = All-tail P first keys all
all-remove P (first ∷ keys) (suc at) all = All-cons P first (remove keys at) (All-head P first keys all) (all-remove P keys at (All-tail P first keys all))

pub order-remove : (keys : List Key) (at : ℕ) → AreInOrder keys → AreInOrder (remove keys at)
order-remove [] zero up = up
order-remove [] (suc at) up = up
order-remove (first ∷ keys) zero up = up.1
order-remove (first ∷ keys) (suc at) up = (all-remove (λ later. is_before first later ≡ true) keys at up.0, order-remove keys at up.1)
