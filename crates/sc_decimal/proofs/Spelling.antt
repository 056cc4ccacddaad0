-- Numbers and their digits without leading zeros, both ways.
use Rattle.std.proofs.Common.{◌≡◌, ℕ, ◌+◌, ◌-◌, ◌*◌, ◌^◌, ◌<◌, ◌≤◌, Bool, ◌&&◌, true, false, List, length, get_or, refl, sym, ◌∙◌, ap, arith, rules, zero, suc}
use Rattle.std.specs.Prelude.{◌↔◌, nat_le, nat_lt, ◌==◌, slice_index, fold, if◌then◌else◌, Option, Some, None}
use Rattle.std.specs.Fmt.{decimal}
use Rattle.std.specs.Char.{is_ascii_digit}
use Rattle.std.specs.List.{list_all}
use Rattle.std.proofs.lemmas.Bool.{and_from, and_right}
use Rattle.std.proofs.lemmas.Bool.Decides.{nat_tests}
use Rattle.std.proofs.lemmas.Fmt.{decimal-digits_value, decimal_nonempty, digits_decimal, digits_value-decimal, first_decimal, length-decimal-le, decimal_digit}
use Rattle.std.proofs.lemmas.Str.Parse.{IsNumeralModel, numerals_by_fold, digits_value_short}
use Rattle.sc_decimal.specs.Number.{has_leading_zero, is_number, read_number, read_plain_number, value_of}
use Rattle.sc_decimal.proofs.Digits.{number-means}

-- digits, and the number that they write
abbrev pub read_on : ℕ → List ℕ → ℕ
read_on n text = fold (λ m c. m * 10 + (c - 48)) n text

pub own : IsNumeralModel (λ ds. list_all is_ascii_digit ds ≡ true) (read_on 0)
own = numerals_by_fold _ (search rules) read_on (search rules)

-- a number of several digits does not begin with 0
plain-decimal : (n : ℕ) → n < 2 ^ 64 → has_leading_zero (decimal n) ≡ false
unfolding has_leading_zero
plain-decimal zero small = rw (decimal_digit 0 (omega arith)) refl
plain-decimal (suc n) small =
    let first = first_decimal (suc n) (omega arith) small in
    let other : (slice_index (decimal (suc n)) 0 == 48) ≡ false = grind (arith, nat_tests) in
    and_right (nat_lt 1 (length (decimal (suc n)))) (slice_index (decimal (suc n)) 0 == 48) other

is_number-decimal : (n : ℕ) → n ≤ 999999999 → is_number (decimal n) ≡ true
unfolding is_number
is_number-decimal n small =
    let bound : n < 2 ^ 64 = omega arith in
    let ds = decimal n in
    let some = decimal_nonempty n bound in
    let short = length-decimal-le 9 n (omega arith) (omega arith) bound in
    let least : nat_le 1 (length (decimal n)) ≡ true = grind (arith, nat_tests) in
    let most : nat_le (length (decimal n)) 9 ≡ true = grind (arith, nat_tests) in
    let a = nat_le 1 (length ds) in
    let b = nat_le (length ds) 9 in
    let c = list_all is_ascii_digit ds in
    and_from (a && b) c (and_from a b least most) (digits_decimal own n bound)

-- the digits of a number read as that number
pub number-decimal : (n : ℕ) → n ≤ 999999999 → read_plain_number (decimal n) ≡ Some n
unfolding read_plain_number read_number value_of
number-decimal n small =
    let value : read_on 0 (decimal n) ≡ n = digits_value-decimal own n (omega arith) in
    rw (plain-decimal n (omega arith), is_number-decimal n small, value) refl

-- a test gave what it gives where it passes, or where it fails
if-then-some : (b : Bool) (x n : ℕ) → (if b then Some x else None) ≡ Some n → (b ≡ true) × (x ≡ n)
if-then-some true x n e = (refl, cc e)
if-then-some false x n e = cc e

if-else-some : (b : Bool) (found : Option ℕ) (n : ℕ) → (if b then None else found) ≡ Some n → (b ≡ false) × (found ≡ Some n)
if-else-some true found n e = cc e
if-else-some false found n e = (refl, e)

-- what reads as a number is its digits
pub decimal-number : (text : List ℕ) (n : ℕ) → read_plain_number text ≡ Some n → text ≡ decimal n
unfolding read_plain_number read_number value_of has_leading_zero
decimal-number text n reads =
    let plain = if-else-some (has_leading_zero text) (read_number text) n reads in
    let is = if-then-some (is_number text) (read_on 0 text) n plain.1 in
    let means = number-means text is.0 in
    let small = digits_value_short own text 9 means.digits means.short in
    let alone : get_or text 0 0 ≡ 48 → length text ≡ 1 = λ zero-first. grind (arith, nat_tests, plain.0, means.some) in
    sym (decimal-digits_value own text means.digits means.some alone (omega arith)) ∙ ap decimal is.1

-- what a text reads as is a number exactly where the text is its digits
pub spelled : (text : List ℕ) (found : Option ℕ) → found ≡ read_plain_number text → (n : ℕ) → n ≤ 999999999 → (found ≡ Some n) ↔ (text ≡ decimal n)
spelled text found is n small =
    rw is ((λ reads. decimal-number text n reads), (λ digits. ap read_plain_number digits ∙ number-decimal n small))
