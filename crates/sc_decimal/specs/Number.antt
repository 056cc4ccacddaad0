-- The numbers that texts of decimal digits write.
use Rattle.std.specs.Prelude.{ℕ, ◌+◌, ◌-◌, ◌*◌, ◌==◌, Bool, ◌&&◌, nat_le, nat_lt, List, length, fold, option_map, slice_index, if◌then◌else◌, Option, None, Some}
use Rattle.std.specs.Char.{is_ascii_digit}
use Rattle.std.specs.List.{list_all, prefix_len, take_while}

-- a number is written as 1 to 9 decimal digits
unfoldable pub is_number : List ℕ → Bool
is_number text = nat_le 1 (length text) && nat_le (length text) 9 && list_all is_ascii_digit text

-- the number that decimal digits write
unfoldable pub value_of : List ℕ → ℕ
value_of text = fold (λ n c. n * 10 + (c - 48)) 0 text

-- the number that a text writes, if it is one
unfoldable pub read_number : List ℕ → Option ℕ
read_number text = if is_number text then Some (value_of text) else None

-- the number that a text begins with, and how many digits write it
unfoldable pub number_at_front : List ℕ → Option (ℕ × ℕ)
number_at_front text = option_map (λ n. (n, prefix_len is_ascii_digit text)) (read_number (take_while is_ascii_digit text))

-- several digits begin with a zero
unfoldable pub has_leading_zero : List ℕ → Bool
has_leading_zero text = nat_lt 1 (length text) && slice_index text 0 == 48

-- the number that a text without leading zeros writes, if it is one
unfoldable pub read_plain_number : List ℕ → Option ℕ
read_plain_number text = if has_leading_zero text then None else read_number text
