-- Where what is kept of students lies, as they come, go and change places.
use Rattle.std.proofs.Common.{◌≡◌, ◌<◌, ◌≢◌, ◌+◌, ◌-◌, ℕ, suc, Vec, nat_eq, false, List, [], ◌∷◌, ◌++◌, length, map, get_or, remove, swap, IsPermutation, inl, inr, refl, sym, ap, subst, ◌∙◌, arith, All}
use Rattle.std.specs.List.{IsDistinct, list_any, range_with_len}
use Rattle.std.specs.Prelude.{slice_set}
use Rattle.std.proofs.lemmas.Bool.{cases_Bool, cases_lt, eq-eqb, eqb-true, false≢true}
use Rattle.std.proofs.lemmas.Bool.Decides.{nat_tests}
use Rattle.std.proofs.lemmas.Cmp.{nat_eq_equiv}
use Rattle.std.proofs.lemmas.Grind.{get_or-set_at}
use Rattle.std.proofs.lemmas.List.{ext_get_or, get_or_append_left, get_or-map, get_or_default, get_or_push, get_or-set_other, length-map, length_push, length-set, map-append, map-id}
use Rattle.std.proofs.lemmas.List.Folds.{list_any_none}
use Rattle.std.proofs.lemmas.List.Edits.{length-remove, length-swap}
use Rattle.std.proofs.lemmas.List.FromFn.{map-range_with_len_more, get_or-map-range_with_len, get_or-range_with_len, length-map-range_with_len, length-range_with_len}
use Rattle.std.proofs.lemmas.List.Sorted.{All-permutation, IsPermutation-remove, length_permutation}
use Rattle.std.proofs.lemmas.Map.Keys.{apart_from_distinct, IsDistinct-from_apart, IsDistinct-IsPermutation, IsDistinct-push, IsDistinct-tail}
use Rattle.std.proofs.lemmas.Simd.{map-map}
use Rattle.indexmap.specs.IndexMap.{move_index}
use Rattle.indexmap.proofs.ReorderLemmas.{exchange, exchange-within, get_or-swap}
use Rattle.indexmap.proofs.SetLemmas.{map-move, map-remove}
use Rattle.sc_papers.specs.Slots.{AreSlots, in_order, new_slot}
use Rattle.sc_papers.proofs.NumberTable.{place-is}

-- an item is read where its slot says
pub slot-low : (slots : List ℕ) (count at slot : ℕ) → AreSlots slots count → at < length slots → slot ≡ get_or slots at slot → slot < count
slot-low slots count at slot are low is = subst (λ n. n < count) (sym is) (are.below at slot low)

-- where the last slot is the free one, all stay
pub unmoved : (last free : ℕ) (slots : List ℕ) → last ≡ free → slots ≡ map (new_slot last free) slots
unmoved last free [] same = refl
unmoved last free (slot ∷ slots) same =
    let one : slot ≡ new_slot last free slot = grind (arith, nat_tests) in
    let rest = unmoved last free slots same in
    λ t. one t ∷ rest t

-- the slots in another order
pub AreSlots-reordered : (slots others : List ℕ) (count : ℕ) → AreSlots slots count → IsPermutation slots others → AreSlots others count
AreSlots-reordered slots others count are reordered = record {
  many = length_permutation slots others reordered ∙ are.many;
  differ = IsDistinct-IsPermutation nat_eq nat_eq_equiv.symm slots others reordered are.differ;
  below = All-permutation (λ slot. slot < count) slots others reordered are.below;
}

-- one item more
pub AreSlots-more : (slots : List ℕ) (count : ℕ) → AreSlots slots count → AreSlots (slots ++ count ∷ []) (count + 1)
AreSlots-more slots count are =
    let new : list_any (nat_eq count) slots ≡ false = list_any_none (nat_eq count) slots (λ k d low. let below = are.below k d low in grind (arith, nat_tests)) in
    record {
      many = length_push slots count ∙ ap (λ n. n + 1) are.many;
      differ = IsDistinct-push nat_eq_equiv slots count are.differ new;
      below = λ k d low.
          let long = length_push slots count in
          elim (cases_lt k (length slots)) [
            | inl before ↦ let same = get_or_append_left slots (count ∷ []) d k before in let below = are.below k d before in omega (arith, same, below)
            | inr after ↦ let last : length slots ≡ k = omega (arith, after, low, long) in omega (arith, get_or_push slots count d k last)
          ];
    }

-- items that lie in order
pub first-more : (count : ℕ) → range_with_len 0 (count + 1) ≡ range_with_len 0 count ++ count ∷ []
first-more count =
    let f = λ (x : ℕ). x in
    sym (map-id (range_with_len 0 (count + 1))) ∙ map-range_with_len_more f 0 count count (omega arith) ∙ ap (λ xs. xs ++ count ∷ []) (map-id (range_with_len 0 count))

pub AreSlots-first : (count : ℕ) → AreSlots (range_with_len 0 count) count
AreSlots-first count = record {
  many = length-range_with_len 0 count;
  differ =
      IsDistinct-from_apart nat_eq (range_with_len 0 count) (λ i j d before within.
      let low : j < count = omega (arith, within, length-range_with_len 0 count) in
      let here = get_or-range_with_len 0 count i d (omega (arith, before, low)) in
      let there = get_or-range_with_len 0 count j d low in
      grind (arith, nat_tests));
  below = λ k d within.
      let low : k < count = omega (arith, within, length-range_with_len 0 count) in
      omega (arith, low, get_or-range_with_len 0 count k d low);
}

module _ {A : Type 0} (none : A) where
  -- another item in a slot
  pub in_order-put : (slots : List ℕ) (items : List A) (at slot : ℕ) (item : A) → AreSlots slots (length items) → at < length slots
      → slot ≡ get_or slots at slot → in_order none slots (slice_set items slot item) ≡ slice_set (in_order none slots items) at item
  in_order-put slots items at slot item are low is =
      let f = λ (s : ℕ). get_or items s none in
      let g = λ (s : ℕ). get_or (slice_set items slot item) s none in
      let within = slot-low slots (length items) at slot are low is in
      ext_get_or none (map g slots) (slice_set (map f slots) at item) (omega (arith, length-map slots f, length-map slots g, length-set (map f slots) at item)) (λ k below.
      let here : k < length slots = omega (arith, below, length-map slots g) in
      get_or-map g slots k slot none here
      ∙ elim (cases_Bool (nat_eq k at)) [
        | inl own ↦
            let one = eqb-true k at own in
            get_or-set_at items slot (get_or slots k slot) item none (ap (λ n. get_or slots n slot) one ∙ sym is) within
            ∙ sym (get_or-set_at (map f slots) at k item none one (omega (arith, low, length-map slots f)))
        | inr other ↦
            let apart : k ≢ at = λ one. false≢true (sym other ∙ eq-eqb k at one) in
            get_or-set_other items slot (get_or slots k slot) item none (λ same.
            apart (sym (place-is slots slot k are.differ here (get_or_default slots k 0 slot here ∙ same)) ∙ place-is slots slot at are.differ low (get_or_default slots at 0 slot low ∙ sym is)))
            ∙ sym (get_or-set_other (map f slots) at k item none apart ∙ get_or-map f slots k slot none here)
      ])

  pub in_order-moved : (slots : List ℕ) (items : List A) (from to : ℕ) → in_order none (move_index slots from to) items ≡ move_index (in_order none slots items) from to
  in_order-moved slots items from to = map-move (λ s. get_or items s none) slots from to

  -- two items in each other's slot
  pub in_order-swapped : (slots : List ℕ) (items : List A) (a b slot_a slot_b : ℕ) → AreSlots slots (length items) → a < length slots → b < length slots
      → slot_a ≡ get_or slots a slot_a → slot_b ≡ get_or slots b slot_b → in_order none slots (swap items slot_a slot_b) ≡ swap (in_order none slots items) a b
  in_order-swapped slots items a b slot_a slot_b are low_a low_b is_a is_b =
      let f = λ (s : ℕ). get_or items s none in
      let g = λ (s : ℕ). get_or (swap items slot_a slot_b) s none in
      let at_a : get_or slots a 0 ≡ slot_a = get_or_default slots a 0 slot_a low_a ∙ sym is_a in
      let at_b : get_or slots b 0 ≡ slot_b = get_or_default slots b 0 slot_b low_b ∙ sym is_b in
      let within_a = slot-low slots (length items) a slot_a are low_a is_a in
      let within_b = slot-low slots (length items) b slot_b are low_b is_b in
      let long = length-map slots f in
      ext_get_or none (map g slots) (swap (map f slots) a b) (length-map slots g ∙ sym (length-swap (map f slots) a b ∙ long)) (λ k low.
      let here : k < length slots = omega (arith, low, length-map slots g) in
      get_or-map g slots k 0 none here ∙ get_or-swap items slot_a slot_b none within_a within_b (get_or slots k 0)
      ∙ ap f (exchanged k at_a at_b
      (λ same. sym (place-is slots slot_a k are.differ here same) ∙ place-is slots slot_a a are.differ low_a at_a)
      (λ same. sym (place-is slots slot_b k are.differ here same) ∙ place-is slots slot_b b are.differ low_b at_b))
      ∙ sym (get_or-map f slots (exchange a b k) 0 none (exchange-within a b (length slots) k low_a low_b here))
      ∙ sym (get_or-swap (map f slots) a b none (omega (arith, low_a, long)) (omega (arith, low_b, long)) k))
    where
      exchanged : (k : ℕ) → get_or slots a 0 ≡ slot_a → get_or slots b 0 ≡ slot_b → (get_or slots k 0 ≡ slot_a → k ≡ a) → (get_or slots k 0 ≡ slot_b → k ≡ b)
          → exchange slot_a slot_b (get_or slots k 0) ≡ get_or slots (exchange a b k) 0
      exchanged k at_a at_b only_a only_b = grind (arith, nat_tests)

  pub in_order-more : (slots : List ℕ) (items : List A) (item : A) → AreSlots slots (length items)
      → in_order none (slots ++ length items ∷ []) (items ++ item ∷ []) ≡ in_order none slots items ++ item ∷ []
  in_order-more slots items item are =
      let more = items ++ item ∷ [] in
      let f = λ (s : ℕ). get_or items s none in
      let g = λ (s : ℕ). get_or more s none in
      let others : map g slots ≡ map f slots =
      ext_get_or none (map g slots) (map f slots) (length-map slots g ∙ sym (length-map slots f)) (λ k low.
      let here : k < length slots = omega (arith, low, length-map slots g) in
      get_or-map g slots k 0 none here ∙ get_or_append_left items (item ∷ []) none (get_or slots k 0) (are.below k 0 here)
      ∙ sym (get_or-map f slots k 0 none here)) in
      map-append g slots (length items ∷ []) ∙ (λ t. others t ++ get_or_push items item none (length items) refl t ∷ [])

  pub in_order-first : (items : List A) → in_order none (range_with_len 0 (length items)) items ≡ items
  in_order-first items =
      let f = λ (slot : ℕ). get_or items slot none in
      ext_get_or none (map f (range_with_len 0 (length items))) items (length-map-range_with_len f 0 (length items)) (λ k low.
      get_or-map-range_with_len f 0 (length items) k k none (omega (arith, low, length-map-range_with_len f 0 (length items))) (omega arith))

  -- an item goes, and the last one comes into the slot that is free
  module _ (slots : List ℕ) (items kept : List A) (at free : ℕ) (are : AreSlots slots (length items)) (low : at < length slots) (is : free ≡ get_or slots at free)
      (shorter : length kept + 1 ≡ length items)
      (moved_in : (d : A) → free + 1 < length items → get_or kept free d ≡ get_or items (length items - 1) d)
      (others : (k : ℕ) (d : A) → k ≢ free → k + 1 < length items → get_or kept k d ≡ get_or items k d)
    where
      rest : List ℕ
      rest = remove slots at

      out : IsPermutation slots (free ∷ rest)
      unfolding rest
      out = IsPermutation-remove slots at free low is

      differ : IsDistinct nat_eq (free ∷ rest)
      differ = IsDistinct-IsPermutation nat_eq nat_eq_equiv.symm slots (free ∷ rest) out are.differ

      within : All (λ slot. slot < length items) (free ∷ rest)
      within = All-permutation (λ slot. slot < length items) slots (free ∷ rest) out are.below

      in-use : (k d : ℕ) → k < length rest → nat_eq free (get_or rest k d) ≡ false
      in-use k d here = apart_from_distinct nat_eq (free ∷ rest) 0 (suc k) d differ (omega arith) (omega (arith, here))

      in-low : (k d : ℕ) → k < length rest → get_or rest k d < length items
      in-low k d here = within (suc k) d (omega (arith, here))

      abbrev one : ℕ → ℕ
      one = new_slot (length kept) free

      one-low : (slot : ℕ) → slot < length items → nat_eq free slot ≡ false → one slot < length kept
      one-low slot low apart = let free_low = within 0 free (omega arith) in grind (arith, nat_tests)

      one-read : (slot : ℕ) → slot < length items → nat_eq free slot ≡ false → get_or kept (one slot) none ≡ get_or items slot none
      one-read slot low apart = elim (cases_Bool (nat_eq slot (length kept))) [
        | inl last ↦
            let same = eqb-true slot (length kept) last in
            let there : length items - 1 ≡ slot = omega (arith, shorter, same) in
            let free_low : free < length items = within 0 free (omega arith) in
            let less : free + 1 < length items = grind (arith, nat_tests) in
            rw last (moved_in none less ∙ ap (λ n. get_or items n none) there)
        | inr before ↦
            let differs : slot ≢ free = λ same. false≢true (sym apart ∙ eq-eqb free slot (sym same)) in
            let less : slot + 1 < length items = grind (arith, nat_tests) in
            rw before (others slot none differs less)
      ]

      pub AreSlots-fewer : AreSlots (map (new_slot (length kept) free) (remove slots at)) (length kept)
      unfolding rest
      AreSlots-fewer = record {
        many = omega (arith, length-map rest one, length-remove slots at low, shorter, are.many);
        differ =
            IsDistinct-from_apart nat_eq (map one rest) (λ i j d before here.
            let long = length-map rest one in
            let low_j : j < length rest = omega (arith, here, long) in
            let low_i : i < length rest = omega (arith, before, low_j) in
            let at_i = get_or-map one rest i d d low_i in
            let at_j = get_or-map one rest j d d low_j in
            let use_i = in-use i d low_i in
            let use_j = in-use j d low_j in
            let apart = apart_from_distinct nat_eq rest i j d (IsDistinct-tail nat_eq free rest differ) before low_j in
            grind (arith, nat_tests));
        below = λ k d here.
            let low_k : k < length rest = omega (arith, here, length-map rest one) in
            let at_k = get_or-map one rest k d d low_k in
            let less = one-low (get_or rest k d) (in-low k d low_k) (in-use k d low_k) in
            omega (arith, at_k, less);
      }

      pub in_order-fewer : in_order none (map (new_slot (length kept) free) (remove slots at)) kept ≡ remove (in_order none slots items) at
      unfolding rest
      in_order-fewer =
          let f = λ (s : ℕ). get_or items s none in
          let g = λ (s : ℕ). get_or kept s none in
          map-map g one rest
          ∙ ext_get_or none (map (λ s. g (one s)) rest) (map f rest) (length-map rest (λ s. g (one s)) ∙ sym (length-map rest f)) (λ k low_k.
          let here : k < length rest = omega (arith, low_k, length-map rest (λ s. g (one s))) in
          get_or-map (λ s. g (one s)) rest k 0 none here ∙ one-read (get_or rest k 0) (in-low k 0 here) (in-use k 0 here)
          ∙ sym (get_or-map f rest k 0 none here))
          ∙ map-remove f slots at

-- so it is where the last of a Vec comes into the place of the one that goes
pub fewer : {A Z : Type 0} (none : A) (slots : List ℕ) (old new : Vec A Z) (at free : ℕ) → AreSlots slots (length old.items) → at < length slots → free ≡ get_or slots at free
    → new.len + 1 ≡ old.len
    → ((d : A) → free + 1 < old.len → get_or new.items free d ≡ get_or old.items (old.len - 1) d)
    × ((k : ℕ) (d : A) → k ≢ free → k + 1 < old.len → get_or new.items k d ≡ get_or old.items k d)
    → AreSlots (map (new_slot new.len free) (remove slots at)) (length new.items)
    × (in_order none (map (new_slot new.len free) (remove slots at)) new.items ≡ remove (in_order none slots old.items) at)
fewer {A} {Z} none slots old new at free are low is less by_index =
    let many = old.ok.0 in
    let left = new.ok.0 in
    let shorter : length new.items + 1 ≡ length old.items = omega (arith, less, left, many) in
    let moved_in : (d : A) → free + 1 < length old.items → get_or new.items free d ≡ get_or old.items (length old.items - 1) d =
    λ d within. by_index.0 d (omega (arith, within, many)) ∙ ap (λ n. get_or old.items (n - 1) d) many in
    let others : (k : ℕ) (d : A) → k ≢ free → k + 1 < length old.items → get_or new.items k d ≡ get_or old.items k d =
    λ k d apart within. by_index.1 k d apart (omega (arith, within, many)) in
    rw left (
      AreSlots-fewer none slots old.items new.items at free are low is shorter moved_in others,
      in_order-fewer none slots old.items new.items at free are low is shorter moved_in others,
    )
