-- Labels as their keys and their turns in two lists, where a turn that never comes tells of a label that was struck.
use Rattle.std.proofs.Common.{◌≡◌, ◌⊎◌, ◌≢◌, inl, inr, refl, ap, sym, subst, ◌∙◌, ℕ, zero, suc, ◌+◌, ◌-◌, ◌<◌, ◌≤◌, true, false, nat_le, nat_lt, cond, Bool, List, [], ◌∷◌, ◌++◌, length, take, drop, get_or, map, set, All, Contains, arith}
use Rattle.std.specs.List.{insert, remove}
use Rattle.std.proofs.lemmas.Bool.{cases_eq, cases_lt, cond-true, cond-false, ltb-false, ltb-true}
use Rattle.std.proofs.lemmas.Bool.Decides.{nat_tests}
use Rattle.std.proofs.lemmas.List.{get_or_default, get_or-set_other, get_or-set_same, length-map, length-set, length-take-le}
use Rattle.std.proofs.lemmas.List.Edits.{get_or-insert_above, get_or-insert_at, get_or-insert_below, get_or-remove_above, get_or-remove_below, length-insert, length-remove}
use Rattle.std.proofs.lemmas.List.Elements.{All-cons, All-contains, All-head, All-map, All-nil, All-tail}
use Rattle.std.proofs.lemmas.List.Sums.{sum_by-append, sum_by-cons}
use Rattle.std.proofs.Math.Seq.{take-add}
use Rattle.sc_papers.specs.Key.{is_before}
use Rattle.sc_papers.specs.declared.key.Key.{Key}
use Rattle.sc_papers.proofs.Counting.{contains-cons, contains-head, contains-tail}
use Rattle.sc_ledgers.specs.Known.{known, labels_with, up_to, AreInOrder, AreKept, HasEachKey, HoldsLast, IsByKey, IsGapIn}
use Rattle.sc_ledgers.specs.Left.{kept_without, label_without, turn_without}
use Rattle.sc_ledgers.specs.declared.ledger.Label.{Label}
use Rattle.sc_ledgers.specs.declared.ledger.TheConstants.{NEVER}
use Rattle.sc_ledgers.proofs.Placing.{gap-apart, one-place, order-insert, order-remove, IsFound}

-- a label stands at a place
record IsAt (keys : List Key) (turns : List ℕ) (label : Label) (at : ℕ) : Type 0 where
  pub low : at < length keys
  pub key : get_or keys at label.key ≡ label.key
  pub turn : get_or turns at 0 ≡ label.turn
  pub held : label.turn < NEVER

-- one key and one turn more before the others
further : (key : Key) (keys : List Key) (turn : ℕ) (turns : List ℕ) (label : Label) → (at : ℕ) × IsAt keys turns label at → (at : ℕ) × IsAt (key ∷ keys) (turn ∷ turns) label at
further key keys turn turns label (at, is) = (suc at, record { low = omega (arith, is.low); key = is.key; turn = is.turn; held = is.held })

-- each label stands somewhere
place-of : (keys : List Key) (turns : List ℕ) (label : Label) → Contains (labels_with keys turns) label → (at : ℕ) × IsAt keys turns label at
place-of [] turns label here = absurd (omega (arith, here.1))
place-of (key ∷ keys) [] label here = absurd (omega (arith, here.1))
place-of (key ∷ keys) (turn ∷ turns) label here = one (nat_lt turn NEVER) refl (place-of keys turns label) here
  where
    first : Label
    first = record { key = key; turn = turn }

    one : (b : Bool) → nat_lt turn NEVER ≡ b → (Contains (labels_with keys turns) label → (at : ℕ) × IsAt keys turns label at) → Contains (cond b (first ∷ labels_with keys turns) (labels_with keys turns)) label → (at : ℕ) × IsAt (key ∷ keys) (turn ∷ turns) label at
    one true held behind among = elim (contains-cons first (labels_with keys turns) label among) [
      | inl same ↦ (0, record { low = omega arith; key = ap (λ l. l.key) same; turn = ap (λ l. l.turn) same; held = subst (λ l. l.turn < NEVER) same (ltb-true turn NEVER held) })
      | inr later ↦ further key keys turn turns label (behind later)
    ]
    one false struck behind among = further key keys turn turns label (behind among)

-- and what stands somewhere is a label
stands : (keys : List Key) (turns : List ℕ) (label : Label) (at : ℕ) → IsAt keys turns label at → length turns ≡ length keys → Contains (labels_with keys turns) label
stands [] turns label at is each = absurd (omega (arith, is.low))
stands (key ∷ keys) [] label at is each = absurd (omega (arith, each))
stands (key ∷ keys) (turn ∷ turns) label zero is each =
    let low : turn < NEVER = omega (arith, is.turn, is.held) in
    let first : Label = record { key = key; turn = turn } in
    let same : first ≡ label = λ t. record { key = is.key t; turn = is.turn t } in
    subst (λ l. Contains l label) (sym (cond-true (nat_lt turn NEVER) (first ∷ labels_with keys turns) (labels_with keys turns) (grind (arith, nat_tests))))
    (subst (Contains (first ∷ labels_with keys turns)) same (contains-head first (labels_with keys turns)))
stands (key ∷ keys) (turn ∷ turns) label (suc at) is each =
    one (nat_lt turn NEVER) (stands keys turns label at (record { low = omega (arith, is.low); key = is.key; turn = is.turn; held = is.held }) (omega (arith, each)))
  where
    first : Label
    first = record { key = key; turn = turn }

    one : (b : Bool) → Contains (labels_with keys turns) label → Contains (cond b (first ∷ labels_with keys turns) (labels_with keys turns)) label
    one true later = contains-tail first (labels_with keys turns) label later
    one false later = later

-- where a key has its gap no label is of the key
pub gap-only : (keys : List Key) (turns : List ℕ) (at : ℕ) (key : Key) (label : Label) → IsGapIn keys key at → Contains (labels_with keys turns) label → label.key ≡ key → ⊥
gap-only keys turns at key label gap here same =
    let (i, is) = place-of keys turns label here in
    gap-apart keys at i key label.key gap is.low (is.key ∙ same)

-- at the place of a key
module _ (keys : List Key) (turns : List ℕ) (kept : AreKept keys turns) (at : ℕ) (key : Key) (found : IsFound keys key at) where
  -- the one label of the key stands, if there is one
  its-place : (label : Label) (i : ℕ) → IsAt keys turns label i → label.key ≡ key → i ≡ at
  its-place label i is same = one-place keys i at label.key kept.order is.low found.0 (is.key ∙ same ∙ sym (found.1 label.key))

  pub its-turn : (label : Label) → Contains (labels_with keys turns) label → label.key ≡ key → label.turn ≡ get_or turns at 0
  its-turn label here same =
      let (i, is) = place-of keys turns label here in
      sym is.turn ∙ ap (λ j. get_or turns j 0) (its-place label i is same)

  -- another turn there is that of the label
  pub set-there : (turn : ℕ) → turn < NEVER → Contains (labels_with keys (set turns at turn)) (record { key = key; turn = turn })
  set-there turn held =
      stands keys (set turns at turn) (record { key = key; turn = turn }) at
      (record { low = found.0; key = found.1 key; turn = get_or-set_same turns at turn 0 (omega (arith, found.0, kept.one_each)); held = held })
      (length-set turns at turn ∙ kept.one_each)

  -- the others stay
  pub set-kept : (turn : ℕ) (label : Label) → Contains (labels_with keys turns) label → (label.key ≡ key → label.turn ≡ get_or turns at 0 → ⊥) → Contains (labels_with keys (set turns at turn)) label
  set-kept turn label here other =
      let (i, is) = place-of keys turns label here in
      let apart : i ≢ at = λ same. other (sym is.key ∙ ap (λ j. get_or keys j label.key) same ∙ found.1 label.key) (sym is.turn ∙ ap (λ j. get_or turns j 0) same) in
      stands keys (set turns at turn) label i
      (record { low = is.low; key = is.key; turn = get_or-set_other turns at i turn 0 apart ∙ is.turn; held = is.held })
      (length-set turns at turn ∙ kept.one_each)

  -- and there are no more
  pub set-only : (turn : ℕ) (label : Label) → Contains (labels_with keys (set turns at turn)) label → (Contains (labels_with keys turns) label × (label.key ≡ key → ⊥)) ⊎ ((label ≡ record { key = key; turn = turn }) × (turn < NEVER))
  set-only turn label here =
      let (i, is) = place-of keys (set turns at turn) label here in
      elim (cases_eq i at) [
        | inl same ↦
            let key-is : label.key ≡ key = sym is.key ∙ ap (λ j. get_or keys j label.key) same ∙ found.1 label.key in
            let turn-is : label.turn ≡ turn = sym is.turn ∙ ap (λ j. get_or (set turns at turn) j 0) same ∙ get_or-set_same turns at turn 0 (omega (arith, found.0, kept.one_each)) in
            inr ((λ t. record { key = key-is t; turn = turn-is t }), omega (arith, turn-is, is.held))
        | inr apart ↦
            let was : IsAt keys turns label i = record { low = is.low; key = is.key; turn = sym (get_or-set_other turns at i turn 0 apart) ∙ is.turn; held = is.held } in
            inl (stands keys turns label i was kept.one_each, λ same. apart (its-place label i was same))
      ]

  -- without the key and its turn
  pub kept-remove : AreKept (remove keys at) (remove turns at)
  kept-remove = record {
    order = order-remove keys at kept.order;
    one_each = omega (arith, length-remove turns at (omega (arith, found.0, kept.one_each)), length-remove keys at found.0, kept.one_each);
  }

  -- the others stay
  pub remove-kept : (label : Label) → Contains (labels_with keys turns) label → (label.key ≡ key → ⊥) → Contains (labels_with (remove keys at) (remove turns at)) label
  remove-kept label here other =
      let (i, is) = place-of keys turns label here in
      let apart : i ≢ at = λ same. other (sym is.key ∙ ap (λ j. get_or keys j label.key) same ∙ found.1 label.key) in
      let in_turns : at < length turns = omega (arith, found.0, kept.one_each) in
      elim (cases_lt i at) [
        | inl before ↦ stands (remove keys at) (remove turns at) label i (record {
          low = omega (arith, length-remove keys at found.0, before, found.0);
          key = get_or-remove_below keys at label.key i before found.0 ∙ is.key;
          turn = get_or-remove_below turns at 0 i before in_turns ∙ is.turn;
          held = is.held;
        }) kept-remove.one_each
        | inr behind ↦
            let next : i - 1 + 1 ≡ i = omega (arith, behind, apart) in
            stands (remove keys at) (remove turns at) label (i - 1) (record {
              low = omega (arith, length-remove keys at found.0, is.low, next);
              key = get_or-remove_above keys at label.key (i - 1) (omega (arith, behind, apart)) found.0 ∙ ap (λ j. get_or keys j label.key) next ∙ is.key;
              turn = get_or-remove_above turns at 0 (i - 1) (omega (arith, behind, apart)) in_turns ∙ ap (λ j. get_or turns j 0) next ∙ is.turn;
              held = is.held;
            }) kept-remove.one_each
      ]

  pub remove-only : (label : Label) → Contains (labels_with (remove keys at) (remove turns at)) label → Contains (labels_with keys turns) label × (label.key ≡ key → ⊥)
  remove-only label here =
      let (i, is) = place-of (remove keys at) (remove turns at) label here in
      let in_turns : at < length turns = omega (arith, found.0, kept.one_each) in
      elim (cases_lt i at) [
        | inl before ↦
            let was : IsAt keys turns label i = record {
              low = omega (arith, before, found.0);
              key = sym (get_or-remove_below keys at label.key i before found.0) ∙ is.key;
              turn = sym (get_or-remove_below turns at 0 i before in_turns) ∙ is.turn;
              held = is.held;
            } in
            (stands keys turns label i was kept.one_each, λ same. absurd (omega (arith, its-place label i was same, before)))
        | inr behind ↦
            let was : IsAt keys turns label (i + 1) = record {
              low = omega (arith, length-remove keys at found.0, is.low);
              key = sym (get_or-remove_above keys at label.key i behind found.0) ∙ is.key;
              turn = sym (get_or-remove_above turns at 0 i behind in_turns) ∙ is.turn;
              held = is.held;
            } in
            (stands keys turns label (i + 1) was kept.one_each, λ same. absurd (omega (arith, its-place label (i + 1) was same, behind)))
      ]

-- in the gap of a key
module _ (keys : List Key) (turns : List ℕ) (kept : AreKept keys turns) (at : ℕ) (key : Key) (turn : ℕ) (gap : IsGapIn keys key at) where
  in_turns : at ≤ length turns
  in_turns = omega (arith, gap.within, kept.one_each)

  pub kept-insert : AreKept (insert keys at key) (insert turns at turn)
  kept-insert = record {
    order = order-insert keys at key kept.order gap;
    one_each = omega (arith, length-insert turns at turn in_turns, length-insert keys at key gap.within, kept.one_each);
  }

  -- the key and its turn are a label
  pub insert-there : turn < NEVER → Contains (labels_with (insert keys at key) (insert turns at turn)) (record { key = key; turn = turn })
  insert-there held =
      stands (insert keys at key) (insert turns at turn) (record { key = key; turn = turn }) at (record {
        low = omega (arith, length-insert keys at key gap.within, gap.within);
        key = get_or-insert_at keys at key key gap.within;
        turn = get_or-insert_at turns at turn 0 in_turns;
        held = held;
      }) kept-insert.one_each

  -- the others stay
  pub insert-kept : (label : Label) → Contains (labels_with keys turns) label → Contains (labels_with (insert keys at key) (insert turns at turn)) label
  insert-kept label here =
      let (i, is) = place-of keys turns label here in
      elim (cases_lt i at) [
        | inl before ↦ stands (insert keys at key) (insert turns at turn) label i (record {
          low = omega (arith, length-insert keys at key gap.within, is.low);
          key = get_or-insert_below keys at key label.key i before gap.within ∙ is.key;
          turn = get_or-insert_below turns at turn 0 i before in_turns ∙ is.turn;
          held = is.held;
        }) kept-insert.one_each
        | inr behind ↦ stands (insert keys at key) (insert turns at turn) label (i + 1) (record {
          low = omega (arith, length-insert keys at key gap.within, is.low);
          key = get_or-insert_above keys at key label.key i behind gap.within ∙ is.key;
          turn = get_or-insert_above turns at turn 0 i behind in_turns ∙ is.turn;
          held = is.held;
        }) kept-insert.one_each
      ]

  -- and there are no more
  pub insert-only : (label : Label) → Contains (labels_with (insert keys at key) (insert turns at turn)) label → Contains (labels_with keys turns) label ⊎ (label ≡ record { key = key; turn = turn })
  insert-only label here =
      let (i, is) = place-of (insert keys at key) (insert turns at turn) label here in
      elim (cases_eq i at) [
        | inl same ↦
            let key-is : label.key ≡ key = sym is.key ∙ ap (λ j. get_or (insert keys at key) j label.key) same ∙ get_or-insert_at keys at key label.key gap.within in
            let turn-is : label.turn ≡ turn = sym is.turn ∙ ap (λ j. get_or (insert turns at turn) j 0) same ∙ get_or-insert_at turns at turn 0 in_turns in
            inr (λ t. record { key = key-is t; turn = turn-is t })
        | inr apart ↦ inl (elim (cases_lt i at) [
          | inl before ↦ stands keys turns label i (record {
            low = omega (arith, before, gap.within);
            key = sym (get_or-insert_below keys at key label.key i before gap.within) ∙ is.key;
            turn = sym (get_or-insert_below turns at turn 0 i before in_turns) ∙ is.turn;
            held = is.held;
          }) kept.one_each
          | inr behind ↦
              let next : i - 1 + 1 ≡ i = omega (arith, behind, apart) in
              stands keys turns label (i - 1) (record {
                low = omega (arith, length-insert keys at key gap.within, is.low, next);
                key = sym (ap (λ j. get_or (insert keys at key) j label.key) (sym next) ∙ get_or-insert_above keys at key label.key (i - 1) (omega (arith, behind, apart)) gap.within) ∙ is.key;
                turn = sym (ap (λ j. get_or (insert turns at turn) j 0) (sym next) ∙ get_or-insert_above turns at turn 0 (i - 1) (omega (arith, behind, apart)) in_turns) ∙ is.turn;
                held = is.held;
              }) kept.one_each
        ])
      ]

-- what is so of all keys is so of those of the labels
all-listed : (P : Key → Type 0) (keys : List Key) (turns : List ℕ) → All P keys → All (λ label. P label.key) (labels_with keys turns)
all-listed P [] turns all = All-nil (λ label. P label.key)
all-listed P (key ∷ keys) [] all = All-nil (λ label. P label.key)
all-listed P (key ∷ keys) (turn ∷ turns) all = one (nat_lt turn NEVER) (All-head P key keys all) (all-listed P keys turns (All-tail P key keys all))
  where
    first : Label
    first = record { key = key; turn = turn }

    one : (b : Bool) → P key → All (λ label. P label.key) (labels_with keys turns) → All (λ label. P label.key) (cond b (first ∷ labels_with keys turns) (labels_with keys turns))
    one true here rest = All-cons (λ label. P label.key) first (labels_with keys turns) here rest
    one false here rest = rest

-- so the labels stand by their keys
pub by_key-listed : (keys : List Key) (turns : List ℕ) → AreInOrder keys → IsByKey (labels_with keys turns)
by_key-listed [] turns up = tt
by_key-listed (key ∷ keys) [] up = tt
by_key-listed (key ∷ keys) (turn ∷ turns) up =
    one (nat_lt turn NEVER) (all-listed (λ later. is_before key later ≡ true) keys turns up.0) (by_key-listed keys turns up.1)
  where
    first : Label
    first = record { key = key; turn = turn }

    one : (b : Bool) → All (λ later. is_before key later.key ≡ true) (labels_with keys turns) → IsByKey (labels_with keys turns) → IsByKey (cond b (first ∷ labels_with keys turns) (labels_with keys turns))
    one true ahead rest = (ahead, rest)
    one false ahead rest = rest

-- labels of turns that come are their keys and their turns
pub parted : (labels : List Label) → All (λ label. label.turn < NEVER) labels → labels_with (map (λ label. label.key) labels) (map (λ label. label.turn) labels) ≡ labels
parted [] come = refl
parted (label ∷ labels) come =
    let rest = labels_with (map (λ label. label.key) labels) (map (λ label. label.turn) labels) in
    cond-true (nat_lt label.turn NEVER) (label ∷ rest) rest (held label.turn (All-head (λ l. l.turn < NEVER) label labels come))
    ∙ ap (λ l. label ∷ l) (parted labels (All-tail (λ l. l.turn < NEVER) label labels come))
  where
    held : (turn : ℕ) → turn < NEVER → nat_lt turn NEVER ≡ true
    held turn low = grind (arith, nat_tests)

-- as are those of the labels of which one of each key was kept
pub kept-come : (labels kept : List Label) → HasEachKey labels kept → All (λ label. label.turn < NEVER) labels → All (λ label. label.turn < NEVER) kept
kept-come labels kept has come j d low =
    All-contains (λ label. label.turn < NEVER) labels (get_or kept j d) come (has.only (get_or kept j d) (j, low, get_or_default kept j (get_or kept j d) d low))

-- in the order of the labels
keys-in_order : (labels : List Label) → IsByKey labels → AreInOrder (map (λ label. label.key) labels)
keys-in_order [] up = tt
keys-in_order (label ∷ labels) up = (All-map (λ later. is_before label.key later ≡ true) (λ later. later.key) labels up.0, keys-in_order labels up.1)

pub kept-parted : (labels : List Label) → IsByKey labels → AreKept (map (λ label. label.key) labels) (map (λ label. label.turn) labels)
kept-parted labels up = record {
  order = keys-in_order labels up;
  one_each = length-map labels (λ label. label.turn) ∙ sym (length-map labels (λ label. label.key));
}

-- the labels once a student has left the papers
pub labels-left : (position : ℕ) (keys : List Key) (turns : List ℕ) → labels_with keys (map (kept_without position) turns) ≡ map (label_without position) (labels_with keys turns)
labels-left position [] turns = refl
labels-left position (key ∷ keys) [] = refl
labels-left position (key ∷ keys) (turn ∷ turns) =
    one (nat_lt turn NEVER) refl (labels-left position keys turns)
  where
    first : Label
    first = record { key = key; turn = turn }

    left : List Label
    left = labels_with keys (map (kept_without position) turns)

    -- a turn that comes is still one after it went down
    still : nat_lt turn NEVER ≡ true → nat_lt (turn_without position turn) NEVER ≡ true
    still held = grind (arith, nat_tests, ltb-true)

    one : (b : Bool) → nat_lt turn NEVER ≡ b → left ≡ map (label_without position) (labels_with keys turns)
        → cond (nat_lt (cond b (turn_without position turn) turn) NEVER) (record { key = key; turn = cond b (turn_without position turn) turn } ∷ left) left
        ≡ map (label_without position) (cond b (first ∷ labels_with keys turns) (labels_with keys turns))
    one true held rest =
        cond-true (nat_lt (turn_without position turn) NEVER) (label_without position first ∷ left) left (still held)
        ∙ ap (λ l. label_without position first ∷ l) rest
    one false struck rest = cond-false (nat_lt turn NEVER) (first ∷ left) left struck ∙ rest

-- who asked up to a turn that comes is told by the turns alone
known-cons : (turn : ℕ) (key : Key) (keys : List Key) (t : ℕ) (turns : List ℕ) → turn < NEVER → known turn (labels_with (key ∷ keys) (t ∷ turns)) ≡ cond (nat_le t turn) (key ∷ known turn (labels_with keys turns)) (known turn (labels_with keys turns))
known-cons turn key keys t turns comes = one (nat_lt t NEVER) refl
  where
    rest : List Label
    rest = labels_with keys turns

    late : nat_lt t NEVER ≡ false → nat_le t turn ≡ false
    late struck = grind (arith, nat_tests, ltb-false)

    one : (b : Bool) → nat_lt t NEVER ≡ b → known turn (cond b (record { key = key; turn = t } ∷ rest) rest) ≡ cond (nat_le t turn) (key ∷ known turn rest) (known turn rest)
    one true held = refl
    one false struck = sym (cond-false (nat_le t turn) (key ∷ known turn rest) (known turn rest) (late struck))

-- how many they are
pub known-count : (turn : ℕ) (keys : List Key) (turns : List ℕ) → turn < NEVER → length turns ≡ length keys → length (known turn (labels_with keys turns)) ≡ up_to turn turns
known-count turn [] [] comes each = refl
known-count turn [] (t ∷ turns) comes each = absurd (omega (arith, each))
known-count turn (key ∷ keys) [] comes each = absurd (omega (arith, each))
known-count turn (key ∷ keys) (t ∷ turns) comes each =
    ap length (known-cons turn key keys t turns comes) ∙ one (nat_le t turn) (known-count turn keys turns comes (omega (arith, each)))
    ∙ sym (sum_by-cons (λ u. cond (nat_le u turn) 1 0) t turns)
  where
    one : (b : Bool) → length (known turn (labels_with keys turns)) ≡ up_to turn turns → length (cond b (key ∷ known turn (labels_with keys turns)) (known turn (labels_with keys turns))) ≡ cond b 1 0 + up_to turn turns
    one true rest = omega (arith, rest)
    one false rest = omega (arith, rest)

-- and parted at one of them
known-at : (turn : ℕ) (keys : List Key) (turns : List ℕ) (at : ℕ) (d : Key) → turn < NEVER → at < length keys → length turns ≡ length keys → get_or turns at 0 ≤ turn
    → known turn (labels_with keys turns) ≡ known turn (labels_with (take at keys) (take at turns)) ++ get_or keys at d ∷ known turn (labels_with (drop (suc at) keys) (drop (suc at) turns))
known-at turn [] turns at d comes low each asked = absurd (omega (arith, low))
known-at turn (key ∷ keys) [] at d comes low each asked = absurd (omega (arith, each))
known-at turn (key ∷ keys) (t ∷ turns) zero d comes low each asked =
    known-cons turn key keys t turns comes ∙ cond-true (nat_le t turn) (key ∷ known turn (labels_with keys turns)) (known turn (labels_with keys turns)) (grind (arith, nat_tests))
known-at turn (key ∷ keys) (t ∷ turns) (suc at) d comes low each asked =
    let behind = get_or keys at d ∷ known turn (labels_with (drop (suc at) keys) (drop (suc at) turns)) in
    known-cons turn key keys t turns comes
    ∙ one (nat_le t turn) (known turn (labels_with keys turns)) (known turn (labels_with (take at keys) (take at turns))) behind (known-at turn keys turns at d comes (omega (arith, low)) (omega (arith, each)) asked)
    ∙ ap (λ front. front ++ behind) (sym (known-cons turn key (take at keys) t (take at turns) comes))
  where
    one : (b : Bool) (whole front rest : List Key) → whole ≡ front ++ rest → cond b (key ∷ whole) whole ≡ cond b (key ∷ front) front ++ rest
    one true whole front rest same = ap (λ l. key ∷ l) same
    one false whole front rest same = same

-- where the last of them stands
pub holds-last : (turn : ℕ) (keys : List Key) (turns : List ℕ) (at seats : ℕ) (d : Key) → AreKept keys turns → turn < NEVER → at < length turns → get_or turns at 0 ≤ turn → up_to turn (take at turns) + 1 ≡ seats → HoldsLast turn (labels_with keys turns) seats (get_or keys at d)
holds-last turn keys turns at seats d kept comes low asked count = record {
  front = known turn (labels_with (take at keys) (take at turns));
  rest = known turn (labels_with (drop (suc at) keys) (drop (suc at) turns));
  parts = known-at turn keys turns at d comes (omega (arith, low, kept.one_each)) kept.one_each asked;
  filled = omega (
    arith,
    count,
    known-count turn (take at keys) (take at turns) comes
        (length-take-le at turns (omega (arith, low)) ∙ sym (length-take-le at keys (omega (arith, low, kept.one_each)))),
  );
}

-- the turns up to one are counted block by block
pub count-block : (turn at block : ℕ) (turns : List ℕ) → up_to turn (take (at + block) turns) ≡ up_to turn (take at turns) + up_to turn (take (at + block - at) (drop at turns))
count-block turn at block turns =
    let size : at + block - at ≡ block = omega arith in
    ap (up_to turn) (take-add at block turns) ∙ sum_by-append (λ t. cond (nat_le t turn) 1 0) (take at turns) (take block (drop at turns))
    ∙ ap (λ n. up_to turn (take at turns) + up_to turn (take n (drop at turns))) (sym size)
