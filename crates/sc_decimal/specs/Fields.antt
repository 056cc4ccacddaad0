-- The fields of a line.
use Rattle.std.specs.Prelude.{ℕ, List, [], slice_get, unwrap_or}

-- a field of a line, counted from 0; one past the last is empty
abbrev pub field_at : List (List ℕ) → ℕ → List ℕ
field_at fields index = unwrap_or (slice_get fields index) []
