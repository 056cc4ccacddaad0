-- How the type `Ordered` keeps its items. Other contracts see them in order of entry.
use Rattle.std.specs.Prelude.{ℕ, ◌<◌, ◌≤◌, ◌-◌, ◌^◌, ⊤, List, [], ◌∷◌, Option, None, Some, Vec, length, min, slice_index}
use Rattle.sc_papers.specs.Slots.{AreSlots, in_order}

-- the items in order of entry, and for how many more there is room
pub record Kept (A : Type 0) : Type 0 where
  pub items : List A
  pub room : ℕ

module _ {Z : Type 0} where
  -- the items in order of entry: as they lie, or by an order of their slots
  abbrev pub items_in : {A : Type 0} → Option (Vec ℕ Z) → List A → List A
  items_in None items = items
  items_in (Some order) [] = []
  items_in (Some order) (item ∷ items) = in_order item order.items (item ∷ items)

  -- an order has a slot of 32 bits for each of so many items
  abbrev pub IsOrder : Option (Vec ℕ Z) → ℕ → Type 0
  IsOrder None count = ⊤
  IsOrder (Some order) count = AreSlots order.items count × (count ≤ 2 ^ 32)

  -- an order reaches a position
  abbrev pub Reaches : Option (Vec ℕ Z) → ℕ → Type 0
  Reaches None position = ⊤
  Reaches (Some order) position = position < length order.items

  -- the slot of the item at a position
  abbrev pub slot_at : Option (Vec ℕ Z) → ℕ → ℕ
  slot_at None position = position
  slot_at (Some order) position = slice_index order.items position

  -- for how many more items there is room, where a list of them has so much
  abbrev pub room_in : Option (Vec ℕ Z) → ℕ → ℕ
  room_in None room = room
  room_in (Some order) room = min room (order.cap - order.len)
