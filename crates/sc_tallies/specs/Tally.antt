-- Tallies: how many students have a school, and the last key among them.
use Rattle.std.specs.Prelude.{◌≡◌, ℕ, ◌+◌, nat_eq, List, length, map, Option, None, position, count_by}
use Rattle.std.specs.Option.{option_and_then, option_map}
use Rattle.sc_papers.specs.Key.{key_of}
use Rattle.sc_papers.specs.Market.{Market, schools_of, students_of}
use Rattle.sc_papers.specs.Matching.{Matching, has}
use Rattle.sc_papers.specs.declared.key.Key.{Key}
use Rattle.sc_tallies.specs.LastKey.{keys_among, last_key, or_later}
use Rattle.sc_tallies.specs.declared.tally.Tally.{Tally}

-- the tally of nobody
abbrev pub no_tally : Tally
no_tally = record { held = 0; last = None }

-- the tally with one more key
abbrev pub with_key : Tally → Key → Tally
with_key t key = record { held = t.held + 1; last = or_later t.last key }

-- how many of the students have s, and the last key among them
unfoldable pub tally : Market → Matching → List ℕ → ℕ → Tally
tally m a students s = record { held = count_by (has a s) students; last = last_key (keys_among m a students s) }

-- the tallies of the schools after the first students, by the schools' positions
abbrev pub AreTalliesAmong : Market → Matching → List ℕ → List Tally → Type 0
AreTalliesAmong m a students tallies = tallies ≡ map (tally m a students) (schools_of m)

-- the tallies of the schools, by their positions
abbrev pub AreTallies : Market → Matching → List Tally → Type 0
AreTallies m a tallies = AreTalliesAmong m a (students_of m) tallies

-- there is a tally for each school
abbrev pub IsForEachSchool : Market → List Tally → Type 0
IsForEachSchool m tallies = length tallies ≡ length m.schools

-- the position of the school that i has, if it is one of the papers, and the key of i there
unfoldable pub held_at : Market → Matching → ℕ → Option (ℕ × Key)
held_at m a i = option_and_then (λ s. option_map (λ at. (at, key_of m i s)) (position (nat_eq s) (schools_of m))) (a i)
