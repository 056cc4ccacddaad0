-- What a roll that may keep its keys as a heap holds. Contracts see the keys in order.
use Rattle.std.specs.Prelude.{◌≡◌, ◌≤◌, true, length}
use Rattle.sc_seats.specs.Held.{keys_of, is_heap}
use Rattle.sc_seats.specs.Roll.{RollView, IsAscending, in_order}
use Rattle.sc_seats.specs.declared.heap.HeapRoll.TheInside.{Inside}

-- the keys in order, and the seats
abbrev pub view_of : Inside → RollView
view_of r = record { keys = in_order (keys_of r.held); seats = r.capacity }

-- what is true of the fields: keys that differ, no more than the seats, and as many as these where they are a heap
pub record IsKept (r : Inside) : Type 0 where
  pub ascending : IsAscending (in_order (keys_of r.held))
  pub within : length (keys_of r.held) ≤ r.capacity
  pub full : is_heap r.held ≡ true → length (keys_of r.held) ≡ r.capacity
