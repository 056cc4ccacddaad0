-- The keys that a roll holds, whichever way they are kept.
use Rattle.std.specs.Prelude.{Bool, true, false, List, []}
use Rattle.sc_papers.specs.declared.key.Key.{Key}
use Rattle.sc_seats.specs.declared.held.Held.{Held}
use Rattle.sc_seats.specs.declared.held.Held.TheVariants.{Nobody, Listed, Heaped}

-- the keys, in the order in which they are kept
abbrev pub keys_of : Held → List Key
keys_of Nobody = []
keys_of (Listed keys) = keys
keys_of (Heaped keys) = keys

-- whether they are kept as a heap
abbrev pub is_heap : Held → Bool
is_heap (Heaped keys) = true
is_heap _ = false
