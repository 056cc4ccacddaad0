-- The key stream of a seed.
use Rattle.std.specs.Prelude.{◌≡◌, ℕ, List}
use Rattle.rand_chacha.specs.ChaCha.{ChaCha, of_seed}

-- a stream at the word of another index
abbrev pub moved_to : ℕ → ChaCha → ChaCha
moved_to index stream = record stream { word_pos = index }

-- a stream is that of the seed, at whichever word
abbrev pub IsStreamOf : List ℕ → ChaCha → Type 0
IsStreamOf seed stream = stream ≡ moved_to stream.word_pos (of_seed seed)
