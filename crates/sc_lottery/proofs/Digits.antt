-- Texts of digits: what `hex` answers is what `seed_of` says.
use Rattle.std.proofs.Common.{◌≡◌, ℕ, ◌+◌, ◌*◌, ◌%◌, ◌<◌, List, [], ◌∷◌, length, take, slice_index, Result, Ok, Err, Option, Some, None, false, not, ap, sym, refl, ◌∙◌, arith, inl, inr}
use Rattle.std.specs.List.{AllPass, position_or_len}
use Rattle.std.specs.Option.{unwrap_or}
use Rattle.std.proofs.lemmas.List.{get_or-take, length-take-le}
use Rattle.std.proofs.lemmas.List.Sums.{position_or_len_is}
use Rattle.std.proofs.lemmas.Bool.{cases_eq}
use Rattle.std.proofs.lemmas.Grind.{common_steps}
use Rattle.hex.specs.Hex.{is_hex_digit, hex_digit_value, digit_or_error, ◌>>=◌, decode_of, decode_sized, decode_pairs}
use Rattle.hex.specs.declared.error.FromHexError.{FromHexError}
use Rattle.hex.specs.declared.error.FromHexError.TheVariants.{InvalidHexCharacter, OddLength, InvalidStringLength, OutOfMemory}
use Rattle.hex.proofs.HexLemmas.{decode_of-ok, decode_of-err, decode_of-even, decode_sized-twice, decode_sized-ok, decode_sized-odd, decode_sized-other}
use Rattle.sc_lottery.specs.Seed.{bytes_of, seed_of, first_wrong_index}
use Rattle.sc_lottery.specs.declared.seed.SeedError.TheVariants.{Length, Digit}

-- no index is named where every byte is a digit
first_wrong_index-none : (text : List ℕ) → AllPass is_hex_digit text → first_wrong_index text ≡ None
unfolding first_wrong_index
first_wrong_index-none text digits =
    let all : position_or_len (λ byte. not (is_hex_digit byte)) text ≡ length text =
    position_or_len_is (λ byte. not (is_hex_digit byte)) text (length text) 0 (omega arith)
    (λ k below. ap not (digits k 0 below)) (λ past. absurd (omega arith)) in
    grind (arith, common_steps)

-- the index that is named: a byte that is no digit, with digits alone before it
first_wrong_index-some : (text : List ℕ) (index : ℕ) → index < length text
    → is_hex_digit (slice_index text index) ≡ false → AllPass is_hex_digit (take index text)
    → first_wrong_index text ≡ Some index
unfolding first_wrong_index
first_wrong_index-some text index within wrong digits =
    let front : length (take index text) ≡ index = length-take-le index text (omega arith) in
    let first : position_or_len (λ byte. not (is_hex_digit byte)) text ≡ index =
    position_or_len_is (λ byte. not (is_hex_digit byte)) text index 0 (omega arith)
    (λ k below. ap (λ (byte : ℕ). not (is_hex_digit byte)) (sym (get_or-take index text k 0 below))
    ∙ ap not (digits k 0 (omega arith)))
    (λ _. ap not wrong) in
    grind (arith, common_steps)

-- one byte before others: two digits and a rest that read
byte-decoded : (i high low : ℕ) (sixteens ones : Option ℕ) (rest : Result (List ℕ) FromHexError) (spelled bytes : List ℕ)
    → ((digit_or_error high i sixteens >>= (λ h. digit_or_error low (i + 1) ones >>= (λ l. Ok (h * 16 + l))))
    >>= (λ byte. rest >>= (λ decoded. Ok (byte ∷ decoded)))) ≡ Ok bytes
    → ((decoded : List ℕ) → rest ≡ Ok decoded → spelled ≡ decoded)
    → (unwrap_or sixteens 0 * 16 + unwrap_or ones 0) ∷ spelled ≡ bytes
byte-decoded i high low (Some h) (Some l) (Ok decoded) spelled bytes e same =
    let rest = same decoded refl in
    cc
byte-decoded i high low (Some h) (Some l) (Err wrong) spelled bytes e same = cc e
byte-decoded i high low (Some h) None rest spelled bytes e same = cc e
byte-decoded i high low None ones rest spelled bytes e same = cc e

-- what `hex` decodes is what the digits spell
bytes_of-decoded : (i : ℕ) (text bytes : List ℕ) → decode_pairs i text ≡ Ok bytes → bytes_of text ≡ bytes
unfolding decode_pairs bytes_of
bytes_of-decoded i [] bytes h = cc h
bytes_of-decoded i (digit ∷ []) bytes h = cc h
bytes_of-decoded i (high ∷ low ∷ rest) bytes h =
    byte-decoded i high low (hex_digit_value high) (hex_digit_value low) (decode_pairs (i + 2) rest) (bytes_of rest) bytes h
    (bytes_of-decoded (i + 2) rest)

-- a text that decodes
pub seed_of-decoded : (text bytes : List ℕ) → decode_sized text 32 ≡ Ok bytes → seed_of text ≡ Ok bytes
unfolding seed_of
seed_of-decoded text bytes h =
    let len : length text ≡ 64 = omega (arith, decode_sized-ok text 32 bytes h) in
    let decoded : decode_of text ≡ Ok bytes = sym (decode_sized-twice text 32 len) ∙ h in
    let even : length text % 2 ≡ 0 = omega arith in
    let none = first_wrong_index-none text (decode_of-ok text bytes decoded).1 in
    let spelled = bytes_of-decoded 0 text bytes (sym (decode_of-even text even) ∙ decoded) in
    rw (len, none, spelled) refl

-- a text of another length
seed_of-other : (text : List ℕ) → (length text ≡ 64 → ⊥) → seed_of text ≡ Err Length
unfolding seed_of
seed_of-other text other = grind (arith)

-- a text with a byte that is no digit
seed_of-wrong : (text : List ℕ) (e : FromHexError) → decode_sized text 32 ≡ Err e → length text ≡ 64
    → (index : ℕ) × (e ≡ InvalidHexCharacter (slice_index text index) index) × (seed_of text ≡ Err (Digit index))
unfolding seed_of
seed_of-wrong text e h len =
    elim (decode_of-err text e (sym (decode_sized-twice text 32 len) ∙ h)) [
      | inl odd ↦ absurd (omega arith)
      | inr bad ↦
          let zero_more : 0 + bad.0 ≡ bad.0 = omega arith in
          (bad.0, rw zero_more at bad.1, rw (len, first_wrong_index-some text bad.0 bad.2 bad.3 bad.4) refl)
    ]

-- what each error of `hex` says of a seed; an array takes no memory
abbrev pub Refuses : List ℕ → FromHexError → Type 0
Refuses text OddLength = seed_of text ≡ Err Length
Refuses text InvalidStringLength = seed_of text ≡ Err Length
Refuses text (InvalidHexCharacter c index) = seed_of text ≡ Err (Digit index)
Refuses text OutOfMemory = ⊥

-- a text that does not decode
pub seed_of-refused : (text : List ℕ) (e : FromHexError) → decode_sized text 32 ≡ Err e → Refuses text e
seed_of-refused text e h =
    elim (cases_eq (length text) 64) [
      | inl len ↦
          let wrong = seed_of-wrong text e h len in
          rw wrong.1 wrong.2
      | inr other ↦
          elim (cases_eq (length text % 2) 1) [
            | inl odd ↦
                let same : e ≡ OddLength = cc (decode_sized-odd text 32 odd) in
                rw same (seed_of-other text other)
            | inr even ↦
                let same : e ≡ InvalidStringLength =
                cc (decode_sized-other text 32 (omega arith) (λ half. other (omega arith))) in
                rw same (seed_of-other text other)
          ]
    ]
