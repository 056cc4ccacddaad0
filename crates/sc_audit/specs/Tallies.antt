-- What the schools' tallies say of a matching.
use Rattle.std.specs.Prelude.{ℕ, nat_lt, Bool, false, ◌||◌, Option, None, Some, if◌then◌else◌}
use Rattle.std.specs.Option.{option_map_or}
use Rattle.sc_papers.specs.Key.{is_before, key_of}
use Rattle.sc_papers.specs.Market.{Market, seats_of, students_of}
use Rattle.sc_papers.specs.Matching.{Matching, held}
use Rattle.sc_tallies.specs.LastKey.{keys_among, last_key}

-- s, if more students have it than it has seats
abbrev pub over_at : Market → Matching → ℕ → Option ℕ
over_at m a s = if nat_lt (seats_of m s) (held m a s) then Some s else None

-- whether s has a free seat, or i is ahead there of the last who has s
abbrev pub would_take : Market → Matching → ℕ → ℕ → Bool
would_take m a i s =
    nat_lt (held m a s) (seats_of m s) || option_map_or (is_before (key_of m i s)) (last_key (keys_among m a (students_of m) s)) false

-- the block of a student, if it is the first so far by the students' numbers
abbrev pub earlier_of : Option (ℕ × ℕ) → ℕ → Option ℕ → Option (ℕ × ℕ)
earlier_of first i None = first
earlier_of None i (Some s) = Some (i, s)
earlier_of (Some (j, t)) i (Some s) = if nat_lt i j then Some (i, s) else Some (j, t)
