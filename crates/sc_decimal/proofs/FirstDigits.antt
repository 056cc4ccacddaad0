-- The digits that a text begins with, one at a time.
use Rattle.std.proofs.Common.{◌≡◌, ℕ, ◌+◌, ◌-◌, ◌*◌, ◌^◌, ◌<◌, ◌≤◌, ◌==◌, Bool, true, false, ◌&&◌, List, length, get_or, take, drop, refl, sym, ap, ◌∙◌, arith, zero, suc, Some, None, inl, inr}
use Rattle.std.specs.Prelude.{if◌then◌else◌, nat_le, option_map, Option}
use Rattle.std.specs.Char.{is_ascii_digit}
use Rattle.std.specs.List.{list_all, prefix_len, take_while}
use Rattle.std.proofs.lemmas.Bool.{and_right, cases_lt}
use Rattle.std.proofs.lemmas.Bool.Decides.{nat_tests}
use Rattle.std.proofs.lemmas.List.{at_drop_more, get_or-take, length-take, take-take, take_all}
use Rattle.std.proofs.lemmas.List.Folds.{length-prefix_len, list_all_more}
use Rattle.std.proofs.lemmas.List.Sums.{AllPass-from_list_all, prefix_len-drop_all, prefix_len-drop_no, prefix_len-le-length, prefix_len_is, prefix_len_passes, prefix_len_stops}
use Rattle.sc_decimal.specs.Number.{number_at_front, is_number, read_number, value_of}
use Rattle.sc_decimal.proofs.Digits.{digit-bounds, pow-next, value_of-more}

-- the bytes before an index are the first digits of a text, and write this number
pub record AreDigits (text : List ℕ) (index number : ℕ) : Type 0 where
  pub short : index ≤ 9
  pub digits : list_all is_ascii_digit (take index text) ≡ true
  pub value : number ≡ value_of (take index text)
  pub small : number < 10 ^ index
  pub count : prefix_len is_ascii_digit text ≡ index + prefix_len is_ascii_digit (drop index text)

pub no-digits : (text : List ℕ) → AreDigits text 0 0
unfolding value_of
no-digits text = record { short = omega arith; digits = refl; value = refl; small = omega arith; count = omega arith }

-- the count goes on over a digit
count-more : (text : List ℕ) (i d : ℕ) → i < length text → is_ascii_digit (get_or text i d) ≡ true
    → prefix_len is_ascii_digit (drop i text) ≡ 1 + prefix_len is_ascii_digit (drop (i + 1) text)
count-more text i d within digit = at_drop_more (prefix_len is_ascii_digit) text i d within ∙ rw digit refl

-- a digit more
pub digit-more : (text : List ℕ) (i d number : ℕ) → AreDigits text i number → i < length text → is_ascii_digit (get_or text i d) ≡ true → i < 9
    → AreDigits text (i + 1) (number * 10 + (get_or text i d - 48))
digit-more text i d number are within digit room =
    let most = (digit-bounds (get_or text i d) digit).greatest in
    let count = are.count in
    let more = count-more text i d within digit in
    record {
      short = omega arith;
      digits = rw (list_all_more is_ascii_digit text i d within, are.digits, digit) refl;
      value = rw are.value (sym (value_of-more text i d within));
      small = pow-next number (get_or text i d - 48) i are.small (omega arith);
      count = omega arith;
    }

-- digits write a number where there are some
digits-number : (text : List ℕ) (i number : ℕ) → AreDigits text i number → i ≤ length text → 0 < i → read_number (take i text) ≡ Some number
unfolding read_number is_number
digits-number text i number are within some =
    let short = are.short in
    let ds = take i text in
    let size : length ds ≡ i = omega (arith, length-take i text) in
    let least : nat_le 1 (length ds) ≡ true = grind (arith, nat_tests) in
    let most : nat_le (length ds) 9 ≡ true = grind (arith, nat_tests) in
    rw (least, most, are.digits, are.value) refl

-- the digits end here
ends : (text : List ℕ) (i number : ℕ) → AreDigits text i number → i ≤ length text → prefix_len is_ascii_digit text ≡ i
    → number_at_front text ≡ (if i == 0 then None else Some (number, i))
unfolding number_at_front read_number is_number
ends text zero number are within count = rw count refl
ends text (suc i) number are within count =
    let some : (suc i == 0) ≡ false = grind (arith, nat_tests) in
    rw (count, digits-number text (suc i) number are within (omega arith), some) refl

-- they end at a byte that is no digit
pub ends-before : (text : List ℕ) (i d number : ℕ) → AreDigits text i number → i < length text → is_ascii_digit (get_or text i d) ≡ false
    → number_at_front text ≡ (if i == 0 then None else Some (number, i))
ends-before text i d number are within other =
    let none = prefix_len-drop_no is_ascii_digit text i d within other in
    let count = are.count in
    ends text i number are (omega arith) (omega arith)

-- and at the end of the text
pub ends-with : (text : List ℕ) (i number : ℕ) → AreDigits text i number → length text ≡ i
    → number_at_front text ≡ (if i == 0 then None else Some (number, i))
ends-with text i number are end =
    let none = prefix_len-drop_all is_ascii_digit text i (omega arith) in
    let count = are.count in
    ends text i number are (omega arith) (omega arith)

-- ten digits and more are no number
too-many : (text : List ℕ) → 10 ≤ prefix_len is_ascii_digit text → number_at_front text ≡ None
unfolding number_at_front read_number is_number
too-many text many =
    let ds = take (prefix_len is_ascii_digit text) text in
    let size : length ds ≡ prefix_len is_ascii_digit text = length-prefix_len is_ascii_digit text in
    let long : nat_le (length ds) 9 ≡ false = grind (arith, nat_tests) in
    let bad : (nat_le 1 (length ds) && nat_le (length ds) 9 && list_all is_ascii_digit ds) ≡ false =
    rw long (ap (λ (b : Bool). b && list_all is_ascii_digit ds) (and_right (nat_le 1 (length ds)) false refl)) in
    rw bad refl

pub ten-digits : (text : List ℕ) (d number : ℕ) → AreDigits text 9 number → 9 < length text → is_ascii_digit (get_or text 9 d) ≡ true
    → number_at_front text ≡ None
ten-digits text d number are within digit =
    let more = count-more text 9 d within digit in
    let count = are.count in
    too-many text (omega arith)

-- digits with another byte after them are no number
with-rest : (text : List ℕ) → prefix_len is_ascii_digit text < length text → read_number text ≡ None
unfolding read_number is_number
with-rest text more = rw (and_right (nat_le 1 (length text) && nat_le (length text) 9) (list_all is_ascii_digit text) (by (list_all is_ascii_digit text) refl)) refl
  where
    by : (b : Bool) → list_all is_ascii_digit text ≡ b → list_all is_ascii_digit text ≡ false
    by false e = e
    by true e =
        let passes = AllPass-from_list_all is_ascii_digit text e (prefix_len is_ascii_digit text) 0 more in
        let stops = prefix_len_stops is_ascii_digit text 0 more in
        cc

-- a text is a number where its first digits are one, and are the whole of it
whole : (text : List ℕ) → read_number text ≡ (if prefix_len is_ascii_digit text == length text then read_number (take_while is_ascii_digit text) else None)
whole text = by (prefix_len is_ascii_digit text == length text) refl
  where
    by : (b : Bool) → (prefix_len is_ascii_digit text == length text) ≡ b → read_number text ≡ (if b then read_number (take_while is_ascii_digit text) else None)
    by true e =
        let all : prefix_len is_ascii_digit text ≡ length text = grind (arith, nat_tests) in
        rw (all, take_all (length text) text (omega arith)) refl
    by false e =
        let short = prefix_len-le-length is_ascii_digit text in
        with-rest text (grind (arith, nat_tests))

-- a number with how many digits a text begins with
abbrev counted : List ℕ → ℕ → ℕ × ℕ
counted text n = (n, prefix_len is_ascii_digit text)

-- what a text reads as, by the number that it begins with
read-first : (text : List ℕ) (n digits : ℕ) → number_at_front text ≡ Some (n, digits) → read_number text ≡ (if digits == length text then Some n else None)
unfolding number_at_front
read-first text n digits first = whole text ∙ by (read_number (take_while is_ascii_digit text)) first
  where
    by : (r : Option ℕ) → option_map (counted text) r ≡ Some (n, digits)
        → (if prefix_len is_ascii_digit text == length text then r else None) ≡ (if digits == length text then Some n else None)
    by (Some m) same =
        let found : ℕ × ℕ = (m, prefix_len is_ascii_digit text) in
        let is : ℕ × ℕ = (n, digits) in
        let pair : found ≡ is = cc same in
        ap (λ (p : ℕ × ℕ). if p.1 == length text then Some p.0 else None) pair
    by None same = cc same

-- its digits are the whole of it, or they are not
pub read-whole : (text : List ℕ) (n digits : ℕ) → number_at_front text ≡ Some (n, digits) → digits ≡ length text → read_number text ≡ Some n
read-whole text n digits first all =
    let is : (digits == length text) ≡ true = grind (arith, nat_tests) in
    read-first text n digits first ∙ rw is refl

pub read-part : (text : List ℕ) (n digits : ℕ) → number_at_front text ≡ Some (n, digits) → (digits ≡ length text → ⊥) → read_number text ≡ None
read-part text n digits first part =
    let is : (digits == length text) ≡ false = grind (arith, nat_tests) in
    read-first text n digits first ∙ rw is refl

pub read-none : (text : List ℕ) → number_at_front text ≡ None → read_number text ≡ None
unfolding number_at_front
read-none text first = whole text ∙ by (read_number (take_while is_ascii_digit text)) (prefix_len is_ascii_digit text == length text) first
  where
    by : (r : Option ℕ) (b : Bool) → option_map (counted text) r ≡ None → (if b then r else None) ≡ None
    by (Some m) b same = cc same
    by None true same = refl
    by None false same = refl

-- the digits that write the number at the front are all those that the text begins with
pub front-count : (text : List ℕ) (n digits : ℕ) → number_at_front text ≡ Some (n, digits) → digits ≡ prefix_len is_ascii_digit text
unfolding number_at_front
front-count text n digits front = by (read_number (take_while is_ascii_digit text)) front
  where
    by : (r : Option ℕ) → option_map (counted text) r ≡ Some (n, digits) → digits ≡ prefix_len is_ascii_digit text
    by (Some m) same =
        let found : ℕ × ℕ = (m, prefix_len is_ascii_digit text) in
        let is : ℕ × ℕ = (n, digits) in
        let pair : found ≡ is = cc same in
        sym (ap (λ (p : ℕ × ℕ). p.1) pair)
    by None same = cc same

-- texts that begin with the same digits have the same number at the front
pub front-same : (a b : List ℕ) → prefix_len is_ascii_digit a ≡ prefix_len is_ascii_digit b → take_while is_ascii_digit a ≡ take_while is_ascii_digit b
    → number_at_front a ≡ number_at_front b
unfolding number_at_front
front-same a b count digits =
    let by : ℕ → List ℕ → Option (ℕ × ℕ) = λ k ds. option_map (λ n. (n, k)) (read_number ds) in
    ap (λ (k : ℕ). by k (take_while is_ascii_digit a)) count ∙ ap (by (prefix_len is_ascii_digit b)) digits

-- the first ten bytes tell
pub front-window : (text : List ℕ) → 10 ≤ length text → number_at_front (take 10 text) ≡ number_at_front text
front-window text room = elim (cases_lt (prefix_len is_ascii_digit text) 10) [
  | inl few ↦
      let k = prefix_len is_ascii_digit text in
      let size : length (take 10 text) ≡ 10 = omega (arith, length-take 10 text) in
      let passes : (j : ℕ) → j < k → is_ascii_digit (get_or (take 10 text) j 0) ≡ true = λ j below. rw (get_or-take 10 text j 0 (omega arith)) (prefix_len_passes is_ascii_digit text j 0 below) in
      let stops : k < length (take 10 text) → is_ascii_digit (get_or (take 10 text) k 0) ≡ false = λ _. rw (get_or-take 10 text k 0 few) (prefix_len_stops is_ascii_digit text 0 (omega arith)) in
      let count : prefix_len is_ascii_digit (take 10 text) ≡ k = prefix_len_is is_ascii_digit (take 10 text) k 0 (omega arith) passes stops in
      front-same (take 10 text) text count (rw count (take-take k 10 text (omega arith)))
  | inr many ↦
      let size : length (take 10 text) ≡ 10 = omega (arith, length-take 10 text) in
      let passes : (j : ℕ) → j < 10 → is_ascii_digit (get_or (take 10 text) j 0) ≡ true = λ j below. rw (get_or-take 10 text j 0 below) (prefix_len_passes is_ascii_digit text j 0 (omega arith)) in
      let count : prefix_len is_ascii_digit (take 10 text) ≡ 10 = prefix_len_is is_ascii_digit (take 10 text) 10 0 (omega arith) passes (λ past. absurd (omega arith)) in
      too-many (take 10 text) (omega arith) ∙ sym (too-many text many)
]
