-- The digits of a number, one at a time.
use Rattle.std.proofs.Common.{◌≡◌, ℕ, ◌+◌, ◌-◌, ◌*◌, ◌^◌, ◌<◌, ◌≤◌, ◌&&◌, true, List, length, get_or, take, arith, add-one}
use Rattle.std.specs.Prelude.{nat_le}
use Rattle.std.specs.Char.{is_ascii_digit}
use Rattle.std.specs.List.{list_all}
use Rattle.std.proofs.Math.Nat.{pow-le-pow_right, pow-suc}
use Rattle.std.proofs.lemmas.Bool.{and_parts}
use Rattle.std.proofs.lemmas.Bool.Decides.{nat_tests}
use Rattle.std.proofs.lemmas.List.Sums.{fold_more}
use Rattle.sc_decimal.specs.Number.{is_number, value_of}

-- what makes a text a number
pub record IsNumber (text : List ℕ) : Type 0 where
  pub some : 1 ≤ length text
  pub short : length text ≤ 9
  pub digits : list_all is_ascii_digit text ≡ true

pub number-means : (text : List ℕ) → is_number text ≡ true → IsNumber text
unfolding is_number
number-means text number =
    let a = nat_le 1 (length text) in
    let b = nat_le (length text) 9 in
    let c = list_all is_ascii_digit text in
    let all = and_parts (a && b) c number in
    let sized = and_parts a b all.0 in
    let least : nat_le 1 (length text) ≡ true = sized.0 in
    let most : nat_le (length text) 9 ≡ true = sized.1 in
    record {
      some = grind (arith, nat_tests);
      short = grind (arith, nat_tests);
      digits = all.1;
    }

-- a byte between 48 and 57
pub record IsDigit (c : ℕ) : Type 0 where
  pub least : 48 ≤ c
  pub greatest : c ≤ 57

pub digit-bounds : (c : ℕ) → is_ascii_digit c ≡ true → IsDigit c
digit-bounds c digit =
    let both = and_parts (nat_le 48 c) (nat_le c 57) digit in
    let low : nat_le 48 c ≡ true = both.0 in
    let high : nat_le c 57 ≡ true = both.1 in
    record { least = grind (arith, nat_tests); greatest = grind (arith, nat_tests) }

-- one more digit
pub value_of-more : (text : List ℕ) (i d : ℕ) → i < length text
    → value_of (take (i + 1) text) ≡ value_of (take i text) * 10 + (get_or text i d - 48)
unfolding value_of
value_of-more text i d inside = fold_more (λ (n c : ℕ). n * 10 + (c - 48)) 0 text i d inside

-- a power of ten with room for a digit
pub pow-room : (i : ℕ) → i ≤ 8 → 10 ^ i ≤ 100000000
pow-room i small = pow-le-pow_right {n = 10} (omega arith) small

pub pow-next : (n c i : ℕ) → n < 10 ^ i → c ≤ 9 → n * 10 + c < 10 ^ (i + 1)
pow-next n c i below digit = rw (add-one i, pow-suc 10 i) (omega arith)
