-- What stands in a field, in print.
use Rattle.std.specs.Prelude.{ℕ, ◌/◌, ◌%◌, ◌==◌, ◌||◌, ◌&&◌, nat_le, nat_lt, List, [], ◌∷◌, ◌++◌, codes, flat_map, length, slice_index, take, if◌then◌else◌}

-- a hexadecimal digit
abbrev pub hex_digit : ℕ → ℕ
hex_digit n = slice_index (codes "0123456789ABCDEF") n

-- a byte in print: a quote and a backslash with a backslash before them, and one that is no printable ASCII as `\xNN`
abbrev pub byte_text : ℕ → List ℕ
byte_text byte =
    if byte == 34 || byte == 92 then 92 ∷ byte ∷ []
    else if nat_le 32 byte && nat_le byte 126 then byte ∷ []
    else 92 ∷ 120 ∷ hex_digit (byte / 16) ∷ hex_digit (byte % 16) ∷ []

-- a value between quotes; of a longer one its first 40 bytes, with dots behind
abbrev pub quoted : List ℕ → List ℕ
quoted value = codes "\"" ++ flat_map byte_text (take 40 value) ++ codes "\"" ++ (if nat_lt 40 (length value) then codes "..." else [])
