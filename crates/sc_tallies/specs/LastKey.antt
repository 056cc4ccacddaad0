-- The last key of those who have a school.
use Rattle.std.specs.Prelude.{ℕ, List, map, filter, fold, Option, None, Some, if◌then◌else◌}
use Rattle.sc_papers.specs.Key.{is_before, key_of}
use Rattle.sc_papers.specs.Market.{Market}
use Rattle.sc_papers.specs.Matching.{Matching, has}
use Rattle.sc_papers.specs.declared.key.Key.{Key}

-- the later of a key and the last one so far
abbrev pub or_later : Option Key → Key → Option Key
or_later None key = Some key
or_later (Some last) key = Some (if is_before key last then last else key)

-- the last of some keys, if they are any
unfoldable pub last_key : List Key → Option Key
last_key keys = fold or_later None keys

-- the keys at s of those of the students who have s
abbrev pub keys_among : Market → Matching → List ℕ → ℕ → List Key
keys_among m a students s = map (λ i. key_of m i s) (filter (has a s) students)
