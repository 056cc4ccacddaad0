-- Which texts are seeds.
use Rattle.std.specs.Prelude.{ℕ, ◌+◌, ◌*◌, ◌==◌, not, if◌then◌else◌, List, [], ◌∷◌, length, position, Option, Some, None, Result, Ok, Err, ◌++◌, codes}
use Rattle.std.specs.Fmt.{decimal}
use Rattle.std.specs.Option.{unwrap_or}
use Rattle.hex.specs.Hex.{hex_digit_value, is_hex_digit}
use Rattle.sc_lottery.specs.declared.seed.SeedError.{SeedError}
use Rattle.sc_lottery.specs.declared.seed.SeedError.TheVariants.{Length, Digit}

-- the index, counted from 0, of the first byte that is no hexadecimal digit
unfoldable pub first_wrong_index : List ℕ → Option ℕ
first_wrong_index text = position (λ byte. not (is_hex_digit byte)) text

-- what a hexadecimal digit stands for, in either case
abbrev pub value_of : ℕ → ℕ
value_of digit = unwrap_or (hex_digit_value digit) 0

-- the bytes that digits spell, two of them a byte and the sixteens first
unfoldable pub bytes_of : List ℕ → List ℕ
bytes_of [] = []
bytes_of (digit ∷ []) = []
bytes_of (high ∷ low ∷ rest) = (value_of high * 16 + value_of low) ∷ bytes_of rest

-- the bytes of a text of digits, or the refusal that names the first byte that is none
abbrev pub seed_unless : Option ℕ → List ℕ → Result (List ℕ) SeedError
seed_unless (Some index) text = Err (Digit index)
seed_unless None text = Ok (bytes_of text)

-- the seed of a text: the 32 bytes of its 64 digits, or why it is none
unfoldable pub seed_of : List ℕ → Result (List ℕ) SeedError
seed_of text = if length text == 64 then seed_unless (first_wrong_index text) text else Err Length

-- a refusal in words: its name, and the index of the byte that it names
abbrev pub refusal_text : SeedError → List ℕ
refusal_text Length = codes "Length"
refusal_text (Digit index) = codes "Digit " ++ decimal index
