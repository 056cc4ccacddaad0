-- The best keys that a school was offered, as its functions see them.
use Rattle.std.specs.Prelude.{ℕ, ◌≤◌, List, length}
use Rattle.std.specs.BinaryHeap.{heap_items, IsHeap}
use Rattle.sc_papers.specs.Key.{key_cmp}
use Rattle.sc_papers.specs.LastKey.{IsLastOf}
use Rattle.sc_papers.specs.declared.key.Key.{Key}
use Rattle.sc_audit.specs.declared.best_keys.BestKeys.TheInside.{Inside}

-- the keys, in whatever order, and how many seats there are
pub record BestView : Type 0 where
  pub keys : List Key
  pub seats : ℕ

abbrev pub view_of : Inside → BestView
view_of b = record { keys = heap_items b.keys; seats = b.seats }

-- what is true of the fields: a heap of keys, no more than the seats, and the last of them
pub record IsBest (b : Inside) : Type 0 where
  pub heap : IsHeap key_cmp (heap_items b.keys)
  pub within : length (heap_items b.keys) ≤ b.seats
  pub last : IsLastOf b.last (heap_items b.keys)
