-- Where what is kept of students lies, so that one that goes moves one other at most.
use Rattle.std.specs.Prelude.{◌≡◌, ◌<◌, ℕ, List, All, length, map, nat_eq, slice_index_or, if◌then◌else◌}
use Rattle.std.specs.List.{IsDistinct}

-- slots of so many items, each in use once, in any order
pub record AreSlots (slots : List ℕ) (count : ℕ) : Type 0 where
  pub many : length slots ≡ count
  pub differ : IsDistinct nat_eq slots
  pub below : All (λ slot. slot < count) slots

-- the items in the order of their slots; what would be the item in a slot where there is none stands first
abbrev pub in_order : {A : Type 0} → A → List ℕ → List A → List A
in_order none slots items = map (λ slot. slice_index_or items slot none) slots

-- the slot of what lay in this one, once what lay in the last is in one that was free
abbrev pub new_slot : ℕ → ℕ → ℕ → ℕ
new_slot last free slot = if nat_eq slot last then free else slot
