-- Marker lines: where one stands, and what is before and after it.
use Rattle.std.specs.Prelude.{ℕ, ◌-◌, ◌==◌, nat_eq, Bool, ◌||◌, List, [], ◌∷◌, Option, None, Some, if◌then◌else◌, length, drop, slice_index}
use Rattle.std.specs.List.{starts_with}

-- bytes in two parts, with the marker's line between them
pub record Parts : Type 0 where
  pub before : List ℕ
  pub after : List ℕ

-- what stands after an LF, where the bytes begin with one
abbrev pub after_lf : List ℕ → Option (List ℕ)
after_lf [] = None
after_lf (byte ∷ rest) = if byte == 10 then Some rest else None

-- what stands after a line's end, where the bytes begin with one: an LF, a CR and an LF, or the end of all bytes
abbrev pub after_end : List ℕ → Option (List ℕ)
after_end [] = Some []
after_end (byte ∷ rest) = if byte == 13 then after_lf rest else after_lf (byte ∷ rest)

-- what stands after the first line, where that line is the marker
abbrev pub after_marker : List ℕ → List ℕ → Option (List ℕ)
after_marker marker bytes =
    if starts_with nat_eq bytes marker then after_end (drop (length marker) bytes) else None

-- whether a line begins at a place: at the beginning, or after an LF
abbrev pub begins_line : List ℕ → ℕ → Bool
begins_line bytes at = at == 0 || slice_index bytes (at - 1) == 10

-- the parts, with one more byte before the marker
abbrev pub one_later : ℕ → Option Parts → Option Parts
one_later byte None = None
one_later byte (Some parts) = Some (record { before = byte ∷ parts.before; after = parts.after })

-- the parts at a marker that is the first line, and the other ones where it is not
abbrev pub here_or : Option (List ℕ) → Option Parts → Option Parts
here_or None later = later
here_or (Some rest) later = Some (record { before = []; after = rest })

-- the bytes cut at the first line that is the marker; `fresh` says that they begin with a line
abbrev pub cut_at : List ℕ → Bool → List ℕ → Option Parts
cut_at marker fresh [] = None
cut_at marker fresh (byte ∷ rest) =
    here_or (if fresh then after_marker marker (byte ∷ rest) else None) (one_later byte (cut_at marker (byte == 10) rest))
