-- Texts without a mark of the format, and files of rows of such texts.
use Rattle.std.proofs.Common.{◌≡◌, ◌∙◌, ◌<◌, ◌==◌, ◌||◌, ◌^◌, ℕ, Bool, true, false, List, [], ◌∷◌, ◌++◌, Option, Some, None, refl, ap, arith}
use Rattle.std.specs.Prelude.{nat_le, flat_map, ⊤}
use Rattle.std.specs.Char.{is_ascii_digit}
use Rattle.std.specs.Fmt.{decimal}
use Rattle.std.specs.List.{All, join_with_byte, list_all, list_any}
use Rattle.std.proofs.lemmas.Bool.{and_from, and_parts}
use Rattle.std.proofs.lemmas.Bool.Decides.{nat_tests}
use Rattle.std.proofs.lemmas.Fmt.{digits_decimal}
use Rattle.std.proofs.lemmas.List.{append-nil}
use Rattle.std.proofs.lemmas.List.Folds.{list_all-append}
use Rattle.std.proofs.lemmas.List.Elements.{All-head, All-tail}
use Rattle.csv.specs.Machine.{next_record}
use Rattle.csv.specs.Reading.{default_config, records}
use Rattle.csv.specs.Writing as writing
use Rattle.csv.specs.Writing.{default_writer, field_text, fields_text, is_blank, needs_byte}
use Rattle.csv.specs.declared.parser.State.TheVariants as st
use Rattle.csv.proofs.RoundTrip.{read-write-many}
use Rattle.sc_decimal.proofs.Spelling.{own}
use Rattle.sc_intake.proofs.Cutting.{records_from-more, records_from-none}
use Rattle.sc_lines.specs.Line.{further_text, list_text}
use Rattle.sc_lines.specs.Spelling.{IsSchool, IsSchoolOrNone}
use Rattle.sc_export.specs.Files.{continuing_text, row_text}

-- a digit, a letter, or a space
unfoldable pub is_plain : ℕ → Bool
is_plain b = nat_le 48 b || b == 32

-- a byte of such a text calls for no quotes
plain-byte : (b : ℕ) → is_plain b ≡ true → needs_byte default_writer b ≡ false
unfolding is_plain
plain-byte b plain =
    let comma : (b == 44) ≡ false = grind (arith, nat_tests, plain) in
    let quote : (b == 34) ≡ false = grind (arith, nat_tests, plain) in
    let return : (b == 13) ≡ false = grind (arith, nat_tests, plain) in
    let newline : (b == 10) ≡ false = grind (arith, nat_tests, plain) in
    rw (comma, quote, return, newline) refl

pub plain-text : (text : List ℕ) → list_all is_plain text ≡ true → list_any (needs_byte default_writer) text ≡ false
plain-text [] plain = refl
plain-text (b ∷ rest) plain =
    let both = and_parts (is_plain b) (list_all is_plain rest) plain in
    rw (plain-byte b both.0) (plain-text rest both.1)

-- digits are plain
pub digits-plain : (text : List ℕ) → list_all is_ascii_digit text ≡ true → list_all is_plain text ≡ true
unfolding is_plain
digits-plain [] digits = refl
digits-plain (b ∷ rest) digits =
    let both = and_parts (is_ascii_digit b) (list_all is_ascii_digit rest) digits in
    let least : nat_le 48 b ≡ true = (and_parts (nat_le 48 b) (nat_le b 57) both.0).0 in
    rw least (digits-plain rest both.1)

pub decimal-plain : (n : ℕ) → n < 2 ^ 64 → list_all is_plain (decimal n) ≡ true
decimal-plain n small = digits-plain (decimal n) (digits_decimal own n small)

further-plain : (xs : List ℕ) → All IsSchool xs → list_all is_plain (flat_map further_text xs) ≡ true
unfolding is_plain
further-plain [] ok = refl
further-plain (x ∷ xs) ok =
    let high = (All-head IsSchool x xs ok).1 in
    list_all-append is_plain (further_text x) (flat_map further_text xs)
    ∙ and_from (list_all is_plain (further_text x)) (list_all is_plain (flat_map further_text xs))
    (decimal-plain x (omega arith)) (further-plain xs (All-tail IsSchool x xs ok))

-- a list of schools is plain
pub list-plain : (xs : List ℕ) → All IsSchool xs → list_all is_plain (list_text xs) ≡ true
list-plain [] ok = refl
list-plain (x ∷ xs) ok =
    let high = (All-head IsSchool x xs ok).1 in
    list_all-append is_plain (decimal x) (flat_map further_text xs)
    ∙ and_from (list_all is_plain (decimal x)) (list_all is_plain (flat_map further_text xs))
    (decimal-plain x (omega arith)) (further-plain xs (All-tail IsSchool x xs ok))

pub continuing-plain : (continuing : Option ℕ) → IsSchoolOrNone continuing → list_all is_plain (continuing_text continuing) ≡ true
continuing-plain None ok = refl
continuing-plain (Some s) ok = let high = ok.1 in decimal-plain s (omega arith)

-- each field of a row is plain
abbrev pub ArePlain : List (List ℕ) → Type 0
ArePlain [] = ⊤
ArePlain (field ∷ rest) = (list_all is_plain field ≡ true) × ArePlain rest

-- a row of two fields or more, each plain
abbrev pub IsRow : List (List ℕ) → Type 0
IsRow [] = ⊥
IsRow (x ∷ []) = ⊥
IsRow (x ∷ y ∷ rest) = ArePlain (x ∷ y ∷ rest)

-- each of these is such a row
abbrev pub AllRows : List (List (List ℕ)) → Type 0
AllRows [] = ⊤
AllRows (row ∷ rows) = IsRow row × AllRows rows

plain-field : (x : List ℕ) → list_all is_plain x ≡ true → field_text default_writer x ≡ x
plain-field x plain = rw (plain-text x plain) refl

-- plain fields are written as they are, with a comma between each two
joined : (x : List ℕ) (rest : List (List ℕ)) → ArePlain (x ∷ rest)
    → field_text default_writer x ++ fields_text default_writer rest ≡ join_with_byte 44 (x ∷ rest)
unfolding fields_text
joined x [] plain = rw (plain-field x plain.0) (append-nil x)
joined x (y ∷ ys) plain = rw (plain-field x plain.0) (ap (λ (text : List ℕ). x ++ 44 ∷ text) (joined y ys plain.1))

-- a row is what csv's writer writes of its fields
written : (x y : List ℕ) (rest : List (List ℕ)) → IsRow (x ∷ y ∷ rest) → writing.row_text default_writer (x ∷ y ∷ rest) ≡ row_text (x ∷ y ∷ rest)
unfolding is_blank
written x y rest plain = ap (λ (text : List ℕ). text ++ 10 ∷ []) (joined x (y ∷ rest) plain)

-- and is read back
pub row-read : (row : List (List ℕ)) (tail : List ℕ) → IsRow row
    → next_record default_config st.StartRecord [] [] (row_text row ++ tail) ≡ Some (row, st.StartRecord, tail)
row-read [] tail plain = absurd plain
row-read (x ∷ []) tail plain = absurd plain
row-read (x ∷ y ∷ rest) tail plain = rw (← written x y rest plain) (read-write-many x y rest tail)

-- rows one after the other are read back
pub rows-read : (rows : List (List (List ℕ))) → AllRows rows → records default_config (flat_map row_text rows) ≡ rows
unfolding next_record
rows-read [] plain = records_from-none st.StartRecord [] refl
rows-read (row ∷ rows) plain =
    records_from-more st.StartRecord (flat_map row_text (row ∷ rows)) (row, st.StartRecord, flat_map row_text rows) (row-read row (flat_map row_text rows) plain.0)
    ∙ ap (λ (rest : List (List (List ℕ))). row ∷ rest) (rows-read rows plain.1)
