-- Fields that are read as what was written in them.
use Rattle.std.proofs.Common.{◌≡◌, ◌∙◌, ◌<◌, ◌≤◌, ◌==◌, ◌&&◌, ◌^◌, ℕ, Bool, true, false, List, [], ◌∷◌, ◌++◌, length, map, Option, Some, None, Ok, refl, sym, ap, arith, append_assoc, reverse}
use Rattle.std.specs.Prelude.{nat_le, flat_map, ok_or, if◌then◌else◌, ⊤}
use Rattle.std.specs.Char.{is_ascii_digit}
use Rattle.std.specs.Fmt.{decimal}
use Rattle.std.specs.Int.{IsInRange}
use Rattle.std.specs.List.{All, list_all}
use Rattle.std.proofs.lemmas.Bool.{and_from, and_parts}
use Rattle.std.proofs.lemmas.Bool.Decides.{nat_tests}
use Rattle.std.proofs.lemmas.Fmt.{decimal_nonempty, digits_decimal}
use Rattle.std.proofs.lemmas.Grind.{reverse_onto}
use Rattle.std.proofs.lemmas.List.{append-nil, length-append, length-reverse, reverse-append, reverse-reverse}
use Rattle.std.proofs.lemmas.List.Folds.{list_all-append}
use Rattle.std.proofs.lemmas.List.Elements.{All-head, All-tail}
use Rattle.sc_decimal.specs.Number.{has_leading_zero, read_number, read_plain_number}
use Rattle.sc_decimal.proofs.Spelling.{number-decimal, own}
use Rattle.sc_intake.specs.Blanks.{is_blank, trim_start, trimmed}
use Rattle.sc_intake.specs.Field.{all_schools, as_school_or_none, is_within, numbers_in, number_of, number_or_none, numbers_after, within, word_of, words, words_after}
use Rattle.sc_intake.specs.declared.blanks.Blanks.TheVariants.{InLine}
use Rattle.sc_intake.specs.declared.fault.Cause.TheVariants.{Number}
use Rattle.sc_lines.specs.Line.{further_text, list_text}
use Rattle.sc_lines.specs.Spelling.{IsSchool, IsSchoolOrNone}
use Rattle.sc_export.specs.Files.{continuing_text}

-- ---- no blank is taken away

-- a text begins with no blank
abbrev BeginsWell : List ℕ → Type 0
BeginsWell [] = ⊤
BeginsWell (b ∷ rest) = is_blank InLine b ≡ false

kept-start : (text : List ℕ) → BeginsWell text → trim_start (is_blank InLine) text ≡ text
kept-start [] well = refl
kept-start (b ∷ rest) well = rw well refl

all-reversed : (test : ℕ → Bool) (xs : List ℕ) → list_all test xs ≡ true → list_all test (reverse xs) ≡ true
all-reversed test [] all = refl
all-reversed test (x ∷ xs) all =
    let both = and_parts (test x) (list_all test xs) all in
    rw (reverse_onto xs x []) (list_all-append test (reverse xs) (x ∷ []) ∙ and_from (list_all test (reverse xs)) (test x && true) (all-reversed test xs both.1) (rw both.0 refl))

-- a text begins and ends with no blank
pub record IsTidy (text : List ℕ) : Type 0 where
  pub begins : BeginsWell text
  pub ends : BeginsWell (reverse text)

pub kept : (text : List ℕ) → IsTidy text → trimmed InLine text ≡ text
kept text tidy = rw (kept-start text tidy.begins, kept-start (reverse text) tidy.ends) (reverse-reverse text)

digit-no_blank : (b : ℕ) → is_ascii_digit b ≡ true → is_blank InLine b ≡ false
digit-no_blank b digit =
    let least : nat_le 48 b ≡ true = (and_parts (nat_le 48 b) (nat_le b 57) digit).0 in
    let space : (b == 32) ≡ false = grind (arith, nat_tests, least) in
    let tab : (b == 9) ≡ false = grind (arith, nat_tests, least) in
    rw (space, tab) refl

digits-begin : (text : List ℕ) → list_all is_ascii_digit text ≡ true → BeginsWell text
digits-begin [] digits = tt
digits-begin (b ∷ rest) digits = digit-no_blank b (and_parts (is_ascii_digit b) (list_all is_ascii_digit rest) digits).0

begins-more : (front back : List ℕ) → 0 < length front → BeginsWell front → BeginsWell (front ++ back)
begins-more [] back some well = absurd (omega arith)
begins-more (b ∷ front) back some well = well

digits-tidy : (text : List ℕ) → list_all is_ascii_digit text ≡ true → IsTidy text
digits-tidy text digits = record {
  begins = digits-begin text digits;
  ends = digits-begin (reverse text) (all-reversed is_ascii_digit text digits);
}

pub decimal-tidy : (n : ℕ) → n < 2 ^ 64 → IsTidy (decimal n)
decimal-tidy n small = digits-tidy (decimal n) (digits_decimal own n small)

school-small : (s : ℕ) → IsSchool s → s ≤ 99999
school-small s ok = ok.1

list-ends : (x : ℕ) (xs : List ℕ) → All IsSchool (x ∷ xs) → BeginsWell (reverse (list_text (x ∷ xs))) × (0 < length (reverse (list_text (x ∷ xs))))
list-ends x [] ok =
    let high = school-small x (All-head IsSchool x [] ok) in
    let tidy = decimal-tidy x (omega arith) in
    let some = decimal_nonempty x (omega arith) in
    rw (append-nil (decimal x)) (tidy.ends, omega (arith, length-reverse (decimal x)))
list-ends x (y ∷ ys) ok =
    let more = list-ends y ys (All-tail IsSchool x (y ∷ ys) ok) in
    let parts : reverse (list_text (x ∷ y ∷ ys)) ≡ reverse (list_text (y ∷ ys)) ++ reverse (decimal x ++ 32 ∷ []) =
    ap reverse (sym (append_assoc (decimal x) (32 ∷ []) (list_text (y ∷ ys)))) ∙ reverse-append (decimal x ++ 32 ∷ []) (list_text (y ∷ ys)) in
    let size = more.1 in
    rw parts (begins-more (reverse (list_text (y ∷ ys))) (reverse (decimal x ++ 32 ∷ [])) more.1 more.0, omega (arith, length-append (reverse (list_text (y ∷ ys))) (reverse (decimal x ++ 32 ∷ []))))

pub list-tidy : (xs : List ℕ) → All IsSchool xs → IsTidy (list_text xs)
list-tidy [] ok = record { begins = tt; ends = tt }
list-tidy (x ∷ xs) ok =
    let high = school-small x (All-head IsSchool x xs ok) in
    let first = decimal-tidy x (omega arith) in
    record {
      begins = begins-more (decimal x) (flat_map further_text xs) (decimal_nonempty x (omega arith)) first.begins;
      ends = (list-ends x xs ok).0;
    }

pub continuing-tidy : (continuing : Option ℕ) → IsSchoolOrNone continuing → IsTidy (continuing_text continuing)
continuing-tidy None ok = record { begins = tt; ends = tt }
continuing-tidy (Some s) ok = let high = school-small s ok in decimal-tidy s (omega arith)

-- ---- numbers

-- what reads without leading zeros reads
plain-reads : (text : List ℕ) (n : ℕ) → read_plain_number text ≡ Some n → read_number text ≡ Some n
unfolding read_plain_number
plain-reads text n reads = go (has_leading_zero text) reads
  where
    go : (b : Bool) → (if b then None else read_number text) ≡ Some n → read_number text ≡ Some n
    go true e = cc e
    go false e = e

pub number-reads : (n : ℕ) → n ≤ 999999999 → number_of (decimal n) ≡ Ok n
unfolding number_of
number-reads n small = ap (λ (found : Option ℕ). ok_or found Number) (plain-reads (decimal n) n (number-decimal n small))

pub within-ok : (least greatest n : ℕ) → IsInRange least greatest n → within least greatest n ≡ Ok n
within-ok least greatest n range =
    let low : nat_le least n ≡ true = grind (arith, nat_tests, range.0) in
    let high : nat_le n greatest ≡ true = grind (arith, nat_tests, range.1) in
    rw (low, high) refl

pub continuing-reads : (continuing : Option ℕ) → IsSchoolOrNone continuing → number_or_none (continuing_text continuing) ≡ Ok continuing
unfolding number_or_none
continuing-reads None ok = refl
continuing-reads (Some s) ok =
    let high = school-small s ok in
    let some = decimal_nonempty s (omega arith) in
    let other : (length (decimal s) == 0) ≡ false = grind (arith, nat_tests, some) in
    rw (other, number-reads s (omega arith)) refl

pub continuing-ok : (continuing : Option ℕ) → IsSchoolOrNone continuing → as_school_or_none continuing ≡ Ok continuing
continuing-ok None ok = refl
continuing-ok (Some s) ok = rw (within-ok 1 99999 s ok) refl

-- ---- lists

-- a piece without a space goes on to the next one
piece-on : (piece text rest : List ℕ) → list_all is_ascii_digit text ≡ true → words_after piece (text ++ rest) ≡ words_after (piece ++ text) rest
unfolding words_after
piece-on piece [] rest digits = ap (λ (p : List ℕ). words_after p rest) (sym (append-nil piece))
piece-on piece (b ∷ text) rest digits =
    let both = and_parts (is_ascii_digit b) (list_all is_ascii_digit text) digits in
    let least : nat_le 48 b ≡ true = (and_parts (nat_le 48 b) (nat_le b 57) both.0).0 in
    let other : (b == 32) ≡ false = grind (arith, nat_tests, least) in
    rw other (piece-on (piece ++ b ∷ []) text rest both.1 ∙ ap (λ (p : List ℕ). words_after p rest) (append_assoc piece (b ∷ []) text))

some-word : (piece : List ℕ) → 0 < length piece → word_of piece ≡ piece ∷ []
some-word [] some = absurd (omega arith)
some-word (b ∷ piece) some = refl

list-words : (x : ℕ) (xs : List ℕ) → All IsSchool (x ∷ xs) → words (list_text (x ∷ xs)) ≡ map decimal (x ∷ xs)
unfolding words_after
list-words x [] ok =
    let high = school-small x (All-head IsSchool x [] ok) in
    piece-on [] (decimal x) [] (digits_decimal own x (omega arith)) ∙ some-word (decimal x) (decimal_nonempty x (omega arith))
list-words x (y ∷ ys) ok =
    let high = school-small x (All-head IsSchool x (y ∷ ys) ok) in
    let more = list-words y ys (All-tail IsSchool x (y ∷ ys) ok) in
    piece-on [] (decimal x) (32 ∷ list_text (y ∷ ys)) (digits_decimal own x (omega arith))
    ∙ rw (some-word (decimal x) (decimal_nonempty x (omega arith))) (ap (λ (rest : List (List ℕ)). decimal x ∷ rest) more)

numbers-read : (earlier xs : List ℕ) → All IsSchool xs → numbers_after earlier (map decimal xs) ≡ Ok (earlier ++ xs)
unfolding numbers_after
numbers-read earlier [] ok = ap Ok (sym (append-nil earlier))
numbers-read earlier (x ∷ xs) ok =
    let high = school-small x (All-head IsSchool x xs ok) in
    rw (number-reads x (omega arith))
    (numbers-read (earlier ++ x ∷ []) xs (All-tail IsSchool x xs ok) ∙ ap Ok (append_assoc earlier (x ∷ []) xs))

pub list-reads : (xs : List ℕ) → All IsSchool xs → numbers_in (list_text xs) ≡ Ok xs
unfolding numbers_after words_after
list-reads [] ok = refl
list-reads (x ∷ xs) ok = ap (numbers_after []) (list-words x xs ok) ∙ numbers-read [] (x ∷ xs) ok

all-within : (xs : List ℕ) → All IsSchool xs → list_all (is_within 1 99999) xs ≡ true
all-within [] ok = refl
all-within (x ∷ xs) ok =
    let range = All-head IsSchool x xs ok in
    let low : nat_le 1 x ≡ true = grind (arith, nat_tests, range.0) in
    let high : nat_le x 99999 ≡ true = grind (arith, nat_tests, range.1) in
    rw (low, high) (all-within xs (All-tail IsSchool x xs ok))

pub list-ok : (xs : List ℕ) → All IsSchool xs → all_schools xs ≡ Ok xs
list-ok xs ok = rw (all-within xs ok) refl
