-- Cutoffs: the last key that a school admits.
use Rattle.std.specs.Prelude.{ℕ, ◌==◌, nat_lt, List, map, Option, None, Some, if◌then◌else◌}
use Rattle.sc_papers.specs.Market.{Market, schools_of, seats_of, students_of}
use Rattle.sc_papers.specs.Matching.{Matching, held}
use Rattle.sc_papers.specs.declared.key.Key.{Key}
use Rattle.sc_tallies.specs.LastKey.{keys_among, last_key}
use Rattle.sc_reasons.specs.Rising.{rising}
use Rattle.sc_reasons.specs.declared.cutoff.Cutoff.{Cutoff}
use Rattle.sc_reasons.specs.declared.cutoff.Cutoff.TheVariants.{Closed, Free, Full}
use Rattle.sc_reasons.specs.declared.cutoff.CutoffRow.{CutoffRow}

-- a school without seats is closed, one that fewer students have than it has seats is free, and
-- another is full up to the last key among those who have it
abbrev pub cutoff_by : ℕ → ℕ → Option Key → Cutoff
cutoff_by seats count None = if seats == 0 then Closed else Free
cutoff_by seats count (Some last) = if seats == 0 then Closed else if nat_lt count seats then Free else Full last

-- the cutoff of s in a matching
unfoldable pub cutoff : Market → Matching → ℕ → Cutoff
cutoff m a s = cutoff_by (seats_of m s) (held m a s) (last_key (keys_among m a (students_of m) s))

-- the row of a school: its seats, how many have it, and the cutoff
abbrev pub cutoff_row : Market → Matching → ℕ → CutoffRow
cutoff_row m a s = record { school = s; seats = seats_of m s; held = held m a s; cutoff = cutoff m a s }

-- the rows of all schools, in order of entry
abbrev pub rows_in_order : Market → Matching → List CutoffRow
rows_in_order m a = map (cutoff_row m a) (schools_of m)

-- the rows of all schools, by rising number
abbrev pub cutoff_rows : Market → Matching → List CutoffRow
cutoff_rows m a = map (cutoff_row m a) (rising (schools_of m))
