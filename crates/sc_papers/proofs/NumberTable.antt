-- A table of numbers in order of entry, as its numbers come, go and change places.
use Rattle.std.proofs.Common.{◌≡◌, ◌<◌, ◌≤◌, ◌+◌, ◌-◌, ◌^◌, ◌||◌, ℕ, nat_eq, true, false, List, [], ◌∷◌, ◌++◌, Some, None, length, map, get_or, position, remove, insert, swap, IsPermutation, inl, inr, refl, sym, ap, subst, ◌∙◌, arith, cond, ◌↔◌}
use Rattle.std.specs.List.{IsDistinct, list_any, position_or_len, swap_remove}
use Rattle.std.specs.Prelude.{nat_lt}
use Rattle.std.proofs.lemmas.Bool.{cases_Bool, eq-eqb, eqb-true, false≢true, or_left, or_right}
use Rattle.std.proofs.lemmas.Bool.Decides.{nat_tests}
use Rattle.std.proofs.lemmas.Cmp.{nat_eq_equiv}
use Rattle.std.proofs.lemmas.List.{ext_get_or, get_or-map, get_or_default, get_or_push, length-map, length_push, map-append}
use Rattle.std.proofs.lemmas.List.Edits.{get_or-insert_above, get_or-insert_at, get_or-insert_below, get_or-remove_above, get_or-remove_below, length-remove, length-swap}
use Rattle.std.proofs.lemmas.List.Folds.{list_any-append, position_or_len_push}
use Rattle.std.proofs.lemmas.List.Sorted.{IsPermutation-swap, IsPermutation-to_front, length_permutation, list_any-IsPermutation}
use Rattle.std.proofs.lemmas.List.Sums.{passes_at_first, position_or_len_is}
use Rattle.std.proofs.lemmas.Map.Keys.{apart_from_distinct, IsDistinct-IsPermutation, IsDistinct-push, IsDistinct-tail}
use Rattle.std.proofs.lemmas.Option.{slice_get-get_or}
use Rattle.std.proofs.lemmas.Simd.{map-map}
use Rattle.std.proofs.Math.Bool.{or-false}
use Rattle.indexmap.specs.IndexMap.{move_index}
use Rattle.indexmap.proofs.MapLemmas.{swap_remove-default}
use Rattle.indexmap.proofs.MoveLemmas.{move_permutes}
use Rattle.indexmap.proofs.ReorderLemmas.{exchange, exchange-within, exchange-twice, get_or-swap}
use Rattle.indexmap.proofs.SetLemmas.{map-swap_remove}
use Rattle.sc_papers.specs.NumberTable.{IsTable, moved, put_in, taken_out}
use Rattle.sc_papers.proofs.EntryOrder.{moved-there, removed-inserted}
use Rattle.sc_papers.proofs.Positions.{any-among, position-among, position-at, position-found, position-none, prefix-below}

-- where a number stands
abbrev place : List ℕ → ℕ → ℕ
place xs i = position_or_len (nat_eq i) xs

place-holds : (xs : List ℕ) (i : ℕ) → list_any (nat_eq i) xs ≡ true → get_or xs (place xs i) 0 ≡ i
place-holds xs i known = sym (eqb-true i (get_or xs (place xs i) 0) (passes_at_first (nat_eq i) xs 0 (prefix-below (nat_eq i) xs known)))

-- the one place at which it stands
pub place-is : (xs : List ℕ) (i k : ℕ) → IsDistinct nat_eq xs → k < length xs → get_or xs k 0 ≡ i → place xs i ≡ k
place-is xs i k differ low holds =
    position_or_len_is (nat_eq i) xs k 0 (omega arith)
    (λ j before. let apart = apart_from_distinct nat_eq xs j k 0 differ before low in grind (arith, nat_tests))
    (λ within. eq-eqb i (get_or xs k 0) (sym holds))

-- two functions that agree on the numbers of a list
map-among : (f g : ℕ → ℕ) (xs : List ℕ) → ((i : ℕ) → list_any (nat_eq i) xs ≡ true → f i ≡ g i) → map f xs ≡ map g xs
map-among f g [] agree = refl
map-among f g (x ∷ xs) agree =
    let first = agree x (or_left (nat_eq x x) (list_any (nat_eq x) xs) (eq-eqb x x refl)) in
    let rest = map-among f g xs (λ i known. agree i (or_right (nat_eq i x) (list_any (nat_eq i) xs) known)) in
    λ t. first t ∷ rest t

-- one number more, behind them, changes no place of theirs
place-push : (xs : List ℕ) (x i : ℕ) → list_any (nat_eq i) xs ≡ true → place (xs ++ x ∷ []) i ≡ place xs i
place-push xs x i known =
    let low = prefix-below (nat_eq i) xs known in
    let more = position_or_len_push (nat_eq i) xs x in
    grind (arith, nat_tests)

-- a number is looked up in a table
pub looked-up : (order slots positions : List ℕ) (i slot : ℕ) → IsTable order slots positions → position (nat_eq i) slots ≡ Some slot
    → (d : ℕ) → position (nat_eq i) order ≡ Some (get_or positions slot d)
looked-up order slots positions i slot table found d =
    let here = position-at slots i slot found in
    let known : list_any (nat_eq i) order ≡ true = sym (table.same i) ∙ any-among slots i (position-among slots i slot found) in
    position-found order i known
    ∙ ap Some (sym (ap (λ ps. get_or ps slot d) table.stand ∙ get_or-map (place order) slots slot i d here.0 ∙ ap (place order) here.1))

pub not-found : (order slots positions : List ℕ) (i : ℕ) → IsTable order slots positions → position (nat_eq i) slots ≡ None → position (nat_eq i) order ≡ None
not-found order slots positions i table none =
    elim (cases_Bool (list_any (nat_eq i) order)) [
      | inl known ↦ let found = position-found slots i (table.same i ∙ known) in cc
      | inr other ↦ let end = position-none order i other in grind (arith, nat_tests)
    ]

-- a number comes, behind the others
module _ (order slots positions : List ℕ) (i : ℕ) (table : IsTable order slots positions) (new : list_any (nat_eq i) order ≡ false) where
  abbrev pushed : List ℕ
  pushed = order ++ i ∷ []

  differ-pushed : IsDistinct nat_eq pushed
  differ-pushed = IsDistinct-push nat_eq_equiv order i table.differ new

  place-own : place pushed i ≡ length order
  place-own = place-is pushed i (length order) differ-pushed (let long = length_push order i in omega (arith, long)) (get_or_push order i 0 (length order) refl)

  pub IsTable-pushed : length order < 2 ^ 32 → IsTable (order ++ i ∷ []) (slots ++ i ∷ []) (positions ++ length order ∷ [])
  IsTable-pushed few = record {
    few = let long = length_push order i in omega (arith, long, few);
    differ = differ-pushed;
    same = λ k.
        list_any-append (nat_eq k) slots (i ∷ []) ∙ ap (λ b. b || list_any (nat_eq k) (i ∷ [])) (table.same k)
        ∙ sym (list_any-append (nat_eq k) order (i ∷ []));
    stand =
        let others = table.stand ∙ map-among (place order) (place pushed) slots (λ k known. sym (place-push order i k (sym (table.same k) ∙ known))) in
        (λ t. others t ++ sym place-own t ∷ []) ∙ sym (map-append (place pushed) slots (i ∷ []));
  }

-- the last of different numbers is none of those before it
pub new-last : (front : List ℕ) (i : ℕ) → IsDistinct nat_eq (front ++ i ∷ []) → list_any (nat_eq i) front ≡ false
new-last front i differ = elim (cases_Bool (list_any (nat_eq i) front)) [
  | inl known ↦
      let low = prefix-below (nat_eq i) front known in
      let own = place-is (front ++ i ∷ []) i (length front) differ (let long = length_push front i in omega (arith, long)) (get_or_push front i 0 (length front) refl) in
      let earlier = place-push front i i known in
      absurd (omega (arith, low, own, earlier))
  | inr other ↦ other
]

-- the last number goes, and what is in the last slot takes its slot
module _ (front slots positions : List ℕ) (i slot : ℕ) (table : IsTable (front ++ i ∷ []) slots positions) (found : position (nat_eq i) slots ≡ Some slot) where
  pub IsTable-popped : (kept : List ℕ) (p : ℕ) → kept ≡ swap_remove slots slot i → ((k : ℕ) → list_any (nat_eq k) kept ≡ cond (nat_eq i k) false (list_any (nat_eq k) slots))
      → IsTable front kept (swap_remove positions slot p)
  IsTable-popped kept p is known = record {
    few = let long = length_push front i in omega (arith, long, table.few);
    differ = IsDistinct-tail nat_eq i front (IsDistinct-IsPermutation nat_eq nat_eq_equiv.symm (front ++ i ∷ []) (i ∷ front) (IsPermutation-to_front front i) table.differ);
    same = same;
    stand =
        let some : 0 < length slots = omega (arith, (position-at slots i slot found).0) in
        swap_remove-default positions slot p (place order i) (omega (arith, some, ap length table.stand, length-map slots (place order)))
        ∙ ap (λ ps. swap_remove ps slot (place order i)) table.stand
        ∙ sym (map-swap_remove (place order) slots slot i some) ∙ ap (map (place order)) (sym is)
        ∙ map-among (place order) (place front) kept (λ k among. place-push front i k (sym (same k) ∙ among));
  }
    where
      order : List ℕ
      order = front ++ i ∷ []

      same : (k : ℕ) → list_any (nat_eq k) kept ≡ list_any (nat_eq k) front
      same k =
          let before = table.same k ∙ list_any-append (nat_eq k) front (i ∷ []) in
          elim (cases_Bool (nat_eq i k)) [
            | inl own ↦ let one = eqb-true i k own in known k ∙ rw own (sym (new-last front i table.differ) ∙ ap (λ j. list_any (nat_eq j) front) one)
            | inr other ↦
                let apart : nat_eq k i ≡ false = nat_eq_equiv.symm k i ∙ other in
                known k ∙ rw other (before ∙ rw apart (or-false (list_any (nat_eq k) front)))
          ]

-- numbers that change places, those at k coming to f k
module _ (xs ys slots positions : List ℕ) (f : ℕ → ℕ) (table : IsTable xs slots positions) (reordered : IsPermutation xs ys)
    (there : (k : ℕ) → k < length xs → (f k < length ys) × (get_or ys (f k) 0 ≡ get_or xs k 0))
  where
    differ : IsDistinct nat_eq ys
    differ = IsDistinct-IsPermutation nat_eq nat_eq_equiv.symm xs ys reordered table.differ

    place-moved : (i : ℕ) → list_any (nat_eq i) slots ≡ true → f (place xs i) ≡ place ys i
    place-moved i known =
        let among : list_any (nat_eq i) xs ≡ true = sym (table.same i) ∙ known in
        let (within, holds) = there (place xs i) (prefix-below (nat_eq i) xs among) in
        sym (place-is ys i (f (place xs i)) differ within (holds ∙ place-holds xs i among))

    pub IsTable-reordered : IsTable ys slots (map f positions)
    IsTable-reordered = record {
      few = subst (λ n. n ≤ 2 ^ 32) (sym (length_permutation xs ys reordered)) table.few;
      differ = differ;
      same = λ i. table.same i ∙ list_any-IsPermutation (nat_eq i) xs ys reordered;
      stand =
          ap (map f) table.stand ∙ map-map f (place xs) slots
          ∙ map-among (λ i. f (place xs i)) (place ys) slots place-moved;
    }

-- one number moves
get-taken_out : (xs : List ℕ) (from k : ℕ) → from < length xs → (k ≡ from → ⊥) → get_or (remove xs from) (taken_out from k) 0 ≡ get_or xs k 0
get-taken_out xs from k low apart = elim (cases_Bool (nat_lt from k)) [
  | inl behind ↦
      let less : from < k = grind (arith, nat_tests) in
      let next : k - 1 + 1 ≡ k = omega arith in
      rw behind (get_or-remove_above xs from 0 (k - 1) (omega arith) low ∙ ap (λ n. get_or xs n 0) next)
  | inr before ↦
      let less : k < from = grind (arith, nat_tests) in
      rw before (get_or-remove_below xs from 0 k less low)
]

get-put_in : (xs : List ℕ) (to x k : ℕ) → to ≤ length xs → get_or (insert xs to x) (put_in to k) 0 ≡ get_or xs k 0
get-put_in xs to x k low = elim (cases_Bool (nat_lt k to)) [
  | inl before ↦ let less : k < to = grind (arith, nat_tests) in rw before (get_or-insert_below xs to x 0 k less low)
  | inr behind ↦ let least : to ≤ k = grind (arith, nat_tests) in rw behind (get_or-insert_above xs to x 0 k least low)
]

module _ (xs : List ℕ) (from to : ℕ) (start : from < length xs) (end : to < length xs) where
  moved-there-to : (k : ℕ) → k < length xs → (moved from to k < length (move_index xs from to)) × (get_or (move_index xs from to) (moved from to k) 0 ≡ get_or xs k 0)
  moved-there-to k low =
      let x = get_or xs from 0 in
      let short = length-remove xs from start in
      let is = moved-there xs from to x (slice_get-get_or xs from 0 start) in
      let long = length_permutation xs (move_index xs from to) (move_permutes xs from to start end) in (
        (let within : moved from to k < length xs = grind (arith, nat_tests) in omega (arith, within, long)),
        ap (λ ys. get_or ys (moved from to k) 0) is ∙ elim (cases_Bool (nat_eq k from)) [
          | inl own ↦ let one = eqb-true k from own in rw own (get_or-insert_at (remove xs from) to x 0 (omega (arith, short, end)) ∙ ap (λ n. get_or xs n 0) (sym one))
          | inr other ↦
              let apart : k ≡ from → ⊥ = λ one. false≢true (sym other ∙ eq-eqb k from one) in
              rw other (get-put_in (remove xs from) to x (taken_out from k) (omega (arith, short, end)) ∙ get-taken_out xs from k start apart)
        ],
      )

  pub IsTable-moved : (slots positions : List ℕ) → IsTable xs slots positions → IsTable (move_index xs from to) slots (map (moved from to) positions)
  IsTable-moved slots positions table = IsTable-reordered xs (move_index xs from to) slots positions (moved from to) table (move_permutes xs from to start end) moved-there-to

  -- where it stands already, all stay
  pub moved-nowhere : from ≡ to → xs ≡ move_index xs from to
  moved-nowhere one =
      let there = slice_get-get_or xs from 0 start in
      sym (moved-there xs from to (get_or xs from 0) there ∙ ap (λ n. insert (remove xs from) n (get_or xs from 0)) (sym one) ∙ removed-inserted xs from (get_or xs from 0) there)

-- two numbers change places
module _ (xs slots positions : List ℕ) (a b slot_a slot_b : ℕ) (table : IsTable xs slots positions) (apart : IsDistinct nat_eq slots)
    (low_a : a < length xs) (low_b : b < length xs)
    (found_a : position (nat_eq (get_or xs a 0)) slots ≡ Some slot_a) (found_b : position (nat_eq (get_or xs b 0)) slots ≡ Some slot_b)
  where
    same-length : length positions ≡ length slots
    same-length = ap length table.stand ∙ length-map slots (place xs)

    stands : (k : ℕ) → k < length slots → get_or positions k 0 ≡ place xs (get_or slots k 0)
    stands k low = ap (λ ps. get_or ps k 0) table.stand ∙ get_or-map (place xs) slots k 0 0 low

    -- the slot of what stands at a position
    one-slot : (at slot k : ℕ) → at < length xs → position (nat_eq (get_or xs at 0)) slots ≡ Some slot → k < length slots → (get_or positions k 0 ≡ at) ↔ (k ≡ slot)
    one-slot at slot k low found within =
        let x = get_or xs at 0 in
        let y = get_or slots k 0 in
        let here = position-at slots x slot found in
        let holds : get_or slots slot 0 ≡ x = get_or_default slots slot 0 x here.0 ∙ here.1 in
        let known : list_any (nat_eq y) xs ≡ true = sym (table.same y) ∙ any-among slots y (k, within, get_or_default slots k y 0 within) in (
          (λ there.
              let same : y ≡ x = sym (place-holds xs y known) ∙ ap (λ n. get_or xs n 0) (sym (stands k within) ∙ there) in
              sym (place-is slots y k apart within refl) ∙ place-is slots y slot apart here.0 (holds ∙ sym same)),
          (λ one. stands k within ∙ ap (λ n. place xs (get_or slots n 0)) one ∙ ap (place xs) holds ∙ place-is xs x at table.differ low refl),
        )

    swapped : swap positions slot_a slot_b ≡ map (exchange a b) positions
    swapped =
        let in_a = (position-at slots (get_or xs a 0) slot_a found_a).0 in
        let in_b = (position-at slots (get_or xs b 0) slot_b found_b).0 in
        let within_a : slot_a < length positions = omega (arith, in_a, same-length) in
        let within_b : slot_b < length positions = omega (arith, in_b, same-length) in
        ext_get_or 0 (swap positions slot_a slot_b) (map (exchange a b) positions) (length-swap positions slot_a slot_b ∙ sym (length-map positions (exchange a b)))
        (λ k low.
        let within : k < length positions = omega (arith, low, length-swap positions slot_a slot_b) in
        let in_slots : k < length slots = omega (arith, within, same-length) in
        let at_a = (one-slot a slot_a slot_a low_a found_a in_a).1 refl in
        let at_b = (one-slot b slot_b slot_b low_b found_b in_b).1 refl in
        let only_a = (one-slot a slot_a k low_a found_a in_slots).0 in
        let only_b = (one-slot b slot_b k low_b found_b in_slots).0 in
        get_or-swap positions slot_a slot_b 0 within_a within_b k ∙ exchanged k at_a at_b only_a only_b
        ∙ sym (get_or-map (exchange a b) positions k 0 0 within))
      where
        exchanged : (k : ℕ) → get_or positions slot_a 0 ≡ a → get_or positions slot_b 0 ≡ b → (get_or positions k 0 ≡ a → k ≡ slot_a) → (get_or positions k 0 ≡ b → k ≡ slot_b)
            → get_or positions (exchange slot_a slot_b k) 0 ≡ exchange a b (get_or positions k 0)
        exchanged k at_a at_b only_a only_b = grind (arith, nat_tests)

    pub IsTable-swapped : IsTable (swap xs a b) slots (swap positions slot_a slot_b)
    IsTable-swapped =
        subst (IsTable (swap xs a b) slots) (sym swapped)
        (IsTable-reordered xs (swap xs a b) slots positions (exchange a b) table (IsPermutation-swap xs (swap xs a b) a b low_a low_b refl)
        (λ k low. (
          (let within = exchange-within a b (length xs) k low_a low_b low in omega (arith, within, length-swap xs a b)),
          get_or-swap xs a b 0 low_a low_b (exchange a b k) ∙ ap (λ n. get_or xs n 0) (exchange-twice a b k),
        )))
