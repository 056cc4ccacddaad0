-- Items in order of entry, wherever they lie.
use Rattle.std.proofs.Common.{◌≡◌, ◌<◌, ℕ, List, [], ◌∷◌, ◌++◌, Option, None, Some, Vec, false, is_some, length, get_or, map, remove, refl, swap, subst, sym, ap, ◌∙◌, arith}
use Rattle.std.specs.Prelude.{slice_set}
use Rattle.std.specs.List.{range_with_len}
use Rattle.std.proofs.lemmas.Bool.{true≢false}
use Rattle.std.proofs.lemmas.List.{ext_get_or, get_or-map, get_or_default, length-map, length-set, length_push}
use Rattle.std.proofs.lemmas.List.Edits.{length-swap}
use Rattle.sc_papers.specs.Slots.{in_order, AreSlots}
use Rattle.sc_papers.specs.Ordered.{items_in, slot_at, IsOrder}
use Rattle.indexmap.specs.IndexMap.{move_index}
use Rattle.sc_papers.proofs.Slots.{AreSlots-more, in_order-more, in_order-moved, in_order-first, in_order-put, in_order-swapped}

module _ {Z : Type 0} {A : Type 0} where
  -- it is one what would be the item in a slot where there is none
  pub items-laid : (none : A) (order : Vec ℕ Z) (items : List A) → AreSlots order.items (length items) → items_in (Some order) items ≡ in_order none order.items items
  items-laid none order [] are = go order.items are.many
    where
      go : (slots : List ℕ) → length slots ≡ 0 → [] ≡ in_order none slots []
      go [] many = refl
      go (s ∷ slots) many = absurd (omega (arith, many))
  items-laid none order (x ∷ xs) are =
      let items = x ∷ xs in
      let slots = order.items in
      let f = λ (s : ℕ). get_or items s x in
      let g = λ (s : ℕ). get_or items s none in
      ext_get_or none (map f slots) (map g slots) (length-map slots f ∙ sym (length-map slots g)) (λ k low.
      let here : k < length slots = omega (arith, low, length-map slots f) in
      get_or-map f slots k 0 none here ∙ get_or_default items (get_or slots k 0) x none (are.below k 0 here) ∙ sym (get_or-map g slots k 0 none here))

  -- as many as there are
  pub items-many : (order : Option (Vec ℕ Z)) (items : List A) → IsOrder order (length items) → length (items_in order items) ≡ length items
  items-many None items are = refl
  items-many (Some order) [] are = refl
  items-many (Some order) (x ∷ xs) are = length-map order.items (λ s. get_or (x ∷ xs) s x) ∙ are.0.many

  -- another item at a position
  pub items-put : (order : Option (Vec ℕ Z)) (items : List A) (at : ℕ) (item : A) → IsOrder order (length items) → at < length (items_in order items)
      → items_in order (slice_set items (slot_at order at) item) ≡ slice_set (items_in order items) at item
  items-put None items at item are low = refl
  items-put (Some order) items at item are low =
      let within : at < length order.items = omega (arith, low, items-many (Some order) items are, are.0.many) in
      let slot = get_or order.items at 0 in
      items-laid item order (slice_set items slot item) (subst (AreSlots order.items) (sym (length-set items slot item)) are.0)
      ∙ in_order-put item order.items items at slot item are.0 within (get_or_default order.items at 0 slot within)
      ∙ ap (λ xs. slice_set xs at item) (sym (items-laid item order items are.0))

  -- two items in each other's slot
  pub items-swapped : (order : Option (Vec ℕ Z)) (items : List A) (a b : ℕ) → IsOrder order (length items) → a < length (items_in order items) → b < length (items_in order items)
      → items_in order (swap items (slot_at order a) (slot_at order b)) ≡ swap (items_in order items) a b
  items-swapped None items a b are low_a low_b = refl
  items-swapped (Some order) [] a b are low_a low_b = absurd (omega (arith, low_a))
  items-swapped (Some order) (x ∷ xs) a b are low_a low_b =
      let items = x ∷ xs in
      let within_a : a < length order.items = omega (arith, low_a, items-many (Some order) items are, are.0.many) in
      let within_b : b < length order.items = omega (arith, low_b, items-many (Some order) items are, are.0.many) in
      let slot_a = get_or order.items a 0 in
      let slot_b = get_or order.items b 0 in
      items-laid x order (swap items slot_a slot_b) (subst (AreSlots order.items) (sym (length-swap items slot_a slot_b)) are.0)
      ∙ in_order-swapped x order.items items a b slot_a slot_b are.0 within_a within_b
      (get_or_default order.items a 0 slot_a within_a) (get_or_default order.items b 0 slot_b within_b)

  -- items that lie in order of entry
  pub items-first : (order : Option (Vec ℕ Z)) (slots : Vec ℕ Z) (items : List A) → is_some order ≡ false → slots.items ≡ range_with_len 0 (length items)
      → items_in (Some slots) items ≡ items_in order items
  items-first None slots [] none made = refl
  items-first None slots (x ∷ xs) none made = ap (λ (s : List ℕ). in_order x s (x ∷ xs)) made ∙ in_order-first x (x ∷ xs)
  items-first (Some order) slots items none made = absurd (true≢false none)

  -- one item more
  pub items-more : (order more : Vec ℕ Z) (items : List A) (item : A) → AreSlots order.items (length items) → more.items ≡ order.items ++ length items ∷ []
      → items_in (Some more) (items ++ item ∷ []) ≡ items_in (Some order) items ++ item ∷ []
  items-more order more items item are is =
      items-laid item more (items ++ item ∷ []) (subst (λ slots. AreSlots slots (length (items ++ item ∷ []))) (sym is)
      (subst (AreSlots (order.items ++ length items ∷ [])) (sym (length_push items item)) (AreSlots-more order.items (length items) are)))
      ∙ ap (λ slots. in_order item slots (items ++ item ∷ [])) is ∙ in_order-more item order.items items item are
      ∙ ap (λ xs. xs ++ item ∷ []) (sym (items-laid item order items are))

  -- an item that moves
  pub items-moved : (order moved : Vec ℕ Z) (items : List A) (from to : ℕ) → moved.items ≡ move_index order.items from to
      → items_in (Some moved) items ≡ move_index (items_in (Some order) items) from to
  items-moved order moved [] from to is = refl
  items-moved order moved (x ∷ xs) from to is = ap (λ (slots : List ℕ). in_order x slots (x ∷ xs)) is ∙ in_order-moved x order.items (x ∷ xs) from to

  -- and one that goes
  pub items-removed : (order left : Vec ℕ Z) (items kept : List A) (at : ℕ) → IsOrder (Some order) (length items) → AreSlots left.items (length kept) → at < length order.items
      → ((none : A) → in_order none left.items kept ≡ remove (in_order none order.items items) at)
      → items_in (Some left) kept ≡ remove (items_in (Some order) items) at
  items-removed order left [] kept at are left_are low removed = absurd (omega (arith, low, are.0.many))
  items-removed order left (x ∷ xs) kept at are left_are low removed = items-laid x left kept left_are ∙ removed x
