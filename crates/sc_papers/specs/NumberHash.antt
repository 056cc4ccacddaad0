-- What numbers hash to.
use Rattle.std.specs.Prelude.{ℕ, ◌+◌, ◌*◌, ◌/◌, ◌%◌, List, [], ◌∷◌}
use Rattle.std.specs.Hash.FoldHasher as folding
use Rattle.sc_papers.specs.declared.seeded_hash.NumberHasher.{NumberHasher}

-- the state after bytes: the first of them is kept, and the others are mixed in
unfoldable pub written : NumberHasher → List ℕ → NumberHasher
written hasher [] = hasher
written hasher (low ∷ rest) = record { mixed = folding.write hasher.mixed rest; low = low }

-- a hash of 32 bits: a mixed number, moved by half of the low byte in its lower 24 bits, and by the byte in the others
unfoldable pub near : ℕ → ℕ → ℕ
near mixed low = (mixed / 16777216 % 256 + low) % 256 * 16777216 + (mixed % 16777216 + low / 2) % 16777216

-- what a hasher answers
unfoldable pub finished : NumberHasher → ℕ
finished hasher = near (folding.finish hasher.mixed) hasher.low

-- the state from which each number goes on: a seed's bytes were written into a new one
abbrev pub seeded : List ℕ → NumberHasher
seeded seed = record { mixed = folding.write folding.initial seed; low = 0 }
