-- Readings that are made of several, one after another.
use Rattle.std.proofs.Common.{◌≡◌, ℕ, ◌≤◌, Bool, true, false, refl, ◌∙◌, ap, List, arith, inl}
use Rattle.std.specs.Prelude.{Result, Ok, Err, Option, Some, None, ok_or, nat_le, ◌&&◌, if◌then◌else◌}
use Rattle.std.specs.Fmt.{decimal}
use Rattle.std.specs.Int.{IsInRange}
use Rattle.std.proofs.lemmas.Bool.{and_parts}
use Rattle.std.proofs.lemmas.Bool.Decides.{nat_tests}
use Rattle.sc_decimal.specs.Number.{read_plain_number}
use Rattle.sc_decimal.proofs.Spelling as digits
use Rattle.sc_lines.specs.Reading.{◌>>=◌, Gives, number_in, ranged_in, within}
use Rattle.sc_lines.specs.declared.unread.Unread.{Unread}
use Rattle.sc_lines.specs.declared.unread.Unread.TheVariants.{NoLine}

-- what a first step gave, and what the second gave of it
pub record IsSecond {A B : Type 0} (r : Result A Unread) (f : A → Result B Unread) (y : B) : Type 0 where
  pub first : A
  pub gave : r ≡ Ok first
  pub next : f first ≡ Ok y

pub second : {A B : Type 0} (r : Result A Unread) (f : A → Result B Unread) (y : B) → (r >>= f) ≡ Ok y → IsSecond r f y
second (Ok x) f y e = record { first = x; gave = refl; next = e }
second (Err u) f y e = cc e

-- a test's two cases
pub choose : {A : Type 0} {P : Type 0} (b : Bool) (here there : Result A Unread) (y : A) → (if b then here else there) ≡ Ok y
    → (b ≡ true → here ≡ Ok y → P) → (there ≡ Ok y → P) → P
choose true here there y e this other = this refl e
choose false here there y e this other = other e

-- a test that was passed
pub record IsPassed {A : Type 0} (b : Bool) (here : Result A Unread) (y : A) : Type 0 where
  pub holds : b ≡ true
  pub gave : here ≡ Ok y

pub passed : {A : Type 0} (b : Bool) (here : Result A Unread) (y : A) → (if b then here else Err NoLine) ≡ Ok y → IsPassed b here y
passed true here y e = record { holds = refl; gave = e }
passed false here y e = cc e

pub within-range : (least greatest n : ℕ) → IsInRange least greatest n → within least greatest n ≡ Ok n
within-range least greatest n range =
    let low : nat_le least n ≡ true = grind (arith, nat_tests, range.0) in
    let high : nat_le n greatest ≡ true = grind (arith, nat_tests, range.1) in
    rw (low, high) refl

-- the digits of a number read as that number
number-decimal : (n : ℕ) → n ≤ 999999999 → number_in (decimal n) ≡ Ok n
unfolding number_in
number-decimal n small = ap (λ (found : Option ℕ). ok_or found NoLine) (digits.number-decimal n small)

ok_or-ok : (found : Option ℕ) (n : ℕ) → ok_or found NoLine ≡ Ok n → found ≡ Some n
ok_or-ok None n e = cc e
ok_or-ok (Some m) n e = cc e

-- what reads as a number is its digits
decimal-number : (text : List ℕ) (n : ℕ) → number_in text ≡ Ok n → text ≡ decimal n
unfolding number_in
decimal-number text n reads = digits.decimal-number text n (ok_or-ok (read_plain_number text) n reads)

-- the digits of a number of a range read as that number
pub ranged-decimal : (least greatest n : ℕ) → greatest ≤ 999999999 → IsInRange least greatest n → ranged_in least greatest (decimal n) ≡ Ok n
ranged-decimal least greatest n small range =
    let high = range.1 in
    rw (number-decimal n (omega arith)) (within-range least greatest n range)

-- what a text is that reads as a number of a range
pub record IsRanged (least greatest : ℕ) (text : List ℕ) (n : ℕ) : Type 0 where
  pub spelled : text ≡ decimal n
  pub range : IsInRange least greatest n

pub decimal-ranged : (least greatest n : ℕ) (text : List ℕ) → ranged_in least greatest text ≡ Ok n → IsRanged least greatest text n
decimal-ranged least greatest n text reads =
    let step = second (number_in text) (within least greatest) n reads in
    let m = step.first in
    let test = passed (nat_le least m && nat_le m greatest) (Ok m) n step.next in
    let both = and_parts (nat_le least m) (nat_le m greatest) test.holds in
    let low : nat_le least m ≡ true = both.0 in
    let high : nat_le m greatest ≡ true = both.1 in
    let same : m ≡ n = cc test.gave in
    let least-m : least ≤ m = grind (arith, nat_tests) in
    let m-greatest : m ≤ greatest = grind (arith, nat_tests) in
    record {
      spelled = decimal-number text m step.gave ∙ ap decimal same;
      range = (omega (arith, same, least-m), omega (arith, same, m-greatest));
    }

-- an answer that is the reading's error
pub Gives-error : {A : Type 0} (reading answer : Result A Unread) (e : Unread) → reading ≡ Err e → answer ≡ Err e → Gives reading answer
Gives-error reading (Ok x) e bad same = cc same
Gives-error reading (Err f) e bad same = let is : e ≡ f = cc same in inl (bad ∙ ap Err is)
