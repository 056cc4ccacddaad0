-- A school's rolls as contracts see them.
use Rattle.std.specs.Prelude.{ℕ, ◌-◌, List, length, map, slice_get}
use Rattle.sc_papers.specs.declared.key.Key.{Key}
use Rattle.sc_seats.specs.Roll.{RollView}
use Rattle.sc_tallies.specs.declared.tally.Tally.{Tally}

-- the rolls as lists of keys and seats
abbrev pub rolls_of : {R : Type 0} → (R → List Key) → (R → ℕ) → List R → List RollView
rolls_of keys seats rolls = map (λ roll. record { keys = keys roll; seats = seats roll }) rolls

-- how many keys there are, and the last of them
abbrev pub roll_tally : List Key → Tally
roll_tally keys = record { held = length keys; last = slice_get keys (length keys - 1) }
