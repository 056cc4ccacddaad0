-- Some positions of the order of entry.
use Rattle.std.specs.Prelude.{ℕ, ◌<◌, List, length, slice_index}

-- each of them is below an end
abbrev pub LieBelow : ℕ → List ℕ → Type 0
LieBelow end positions = (k : ℕ) → k < length positions → slice_index positions k < end
