-- No exported file is too long to be read.
use Rattle.std.proofs.Common.{◌≤◌, ◌+◌, ◌*◌, ℕ, List, [], ◌∷◌, ◌++◌, length, Option, Some, None, arith, length-append}
use Rattle.std.specs.Prelude.{flat_map, ⊤}
use Rattle.std.specs.Fmt.{decimal}
use Rattle.std.specs.List.{All}
use Rattle.std.proofs.lemmas.Fmt.{length-decimal-le}
use Rattle.std.proofs.lemmas.List.Elements.{All-head, All-tail}
use Rattle.sc_lines.specs.Line.{further_text, list_text}
use Rattle.sc_lines.specs.Spelling.{IsSchool, IsSchoolOrNone}
use Rattle.sc_export.specs.Files.{continuing_text, row_text}

-- a number of at most nine digits
pub decimal-short : (n : ℕ) → n ≤ 999999999 → length (decimal n) ≤ 9
decimal-short n small = length-decimal-le 9 n (omega arith) (omega arith) (omega arith)

further-short : (xs : List ℕ) → All IsSchool xs → length (flat_map further_text xs) ≤ 10 * length xs
further-short [] ok = omega arith
further-short (x ∷ xs) ok =
    let high = (All-head IsSchool x xs ok).1 in
    let first = decimal-short x (omega arith) in
    let rest = further-short xs (All-tail IsSchool x xs ok) in
    omega (arith, length-append (further_text x) (flat_map further_text xs))

pub list-short : (xs : List ℕ) → All IsSchool xs → length xs ≤ 20 → length (list_text xs) ≤ 200
list-short [] ok few = omega arith
list-short (x ∷ xs) ok few =
    let high = (All-head IsSchool x xs ok).1 in
    let first = decimal-short x (omega arith) in
    let rest = further-short xs (All-tail IsSchool x xs ok) in
    omega (arith, length-append (decimal x) (flat_map further_text xs))

pub continuing-short : (continuing : Option ℕ) → IsSchoolOrNone continuing → length (continuing_text continuing) ≤ 9
continuing-short None ok = omega arith
continuing-short (Some s) ok = let high = ok.1 in decimal-short s (omega arith)

-- a row of at most 256 bytes
abbrev pub IsShortRow : List (List ℕ) → Type 0
IsShortRow row = length (row_text row) ≤ 256

abbrev pub AllShort : List (List (List ℕ)) → Type 0
AllShort [] = ⊤
AllShort (row ∷ rows) = IsShortRow row × AllShort rows

pub rows-short : (rows : List (List (List ℕ))) → AllShort rows → length (flat_map row_text rows) ≤ 256 * length rows
rows-short [] short = omega arith
rows-short (row ∷ rows) short =
    let first = short.0 in
    let rest = rows-short rows short.1 in
    omega (arith, length-append (row_text row) (flat_map row_text rows))

-- a row of two, three or four fields
pub two-short : (a b : List ℕ) → length a + length b ≤ 250 → IsShortRow (a ∷ b ∷ [])
two-short a b short = omega (arith, length-append (a ++ 44 ∷ b) (10 ∷ []), length-append a (44 ∷ b))

pub three-short : (a b c : List ℕ) → length a + length b + length c ≤ 250 → IsShortRow (a ∷ b ∷ c ∷ [])
three-short a b c short =
    let end : List ℕ = b ++ (44 ∷ c) in
    omega (arith, length-append (a ++ (44 ∷ end)) (10 ∷ []), length-append a (44 ∷ end), length-append b (44 ∷ c))

pub four-short : (a b c d : List ℕ) → length a + length b + length c + length d ≤ 250 → IsShortRow (a ∷ b ∷ c ∷ d ∷ [])
four-short a b c d short =
    let last : List ℕ = c ++ (44 ∷ d) in
    let end : List ℕ = b ++ (44 ∷ last) in
    omega (arith, length-append (a ++ (44 ∷ end)) (10 ∷ []), length-append a (44 ∷ end), length-append b (44 ∷ last), length-append c (44 ∷ d))
