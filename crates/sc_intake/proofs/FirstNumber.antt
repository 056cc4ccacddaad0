-- The number of a text's first word, by the number that stands at the text's front.
use Rattle.std.proofs.Common.{◌≡◌, ℕ, ◌+◌, ◌<◌, ◌≤◌, ◌==◌, Bool, true, false, List, [], ◌∷◌, ◌++◌, length, get_or, take, drop, refl, sym, ap, ◌∙◌, append_assoc, arith, add-one, zero, suc, Some, None, Ok, Err}
use Rattle.std.specs.Prelude.{if◌then◌else◌}
use Rattle.std.specs.Char.{is_ascii_digit}
use Rattle.std.specs.List.{prefix_len, take_while}
use Rattle.std.proofs.lemmas.Bool.Decides.{nat_tests}
use Rattle.std.proofs.lemmas.List.{at_drop_all, at_drop_more, length-append, length-take, take_more}
use Rattle.std.proofs.lemmas.List.Sums.{prefix_len-le-length, prefix_len_passes, take_while-cons}
use Rattle.sc_decimal.specs.Number.{number_at_front}
use Rattle.sc_decimal.proofs.Digits.{digit-bounds}
use Rattle.sc_decimal.proofs.FirstDigits.{front-count, front-same, read-none, read-part, read-whole}
use Rattle.sc_intake.specs.declared.fault.Cause.TheVariants.{Number}
use Rattle.sc_intake.specs.Field.{first_number, first_word, number_of}
use Rattle.sc_intake.proofs.Words.{first_word-some}

-- a digit is no space
digit-other : (c : ℕ) → is_ascii_digit c ≡ true → (c == 32) ≡ false
digit-other c digit = let low = (digit-bounds c digit).least in grind (arith, nat_tests)

-- a space is no digit
space-other : (c : ℕ) → (c == 32) ≡ true → is_ascii_digit c ≡ false
space-other c space = let is : c ≡ 32 = grind (arith, nat_tests) in rw is refl

-- a text and its first word begin with the same digits
word-count : (text : List ℕ) → prefix_len is_ascii_digit (first_word text) ≡ prefix_len is_ascii_digit text
unfolding first_word
word-count [] = refl
word-count (c ∷ cs) = by (c == 32) refl (word-count cs)
  where
    by : (s : Bool) → (c == 32) ≡ s → prefix_len is_ascii_digit (first_word cs) ≡ prefix_len is_ascii_digit cs
        → prefix_len is_ascii_digit (if s then [] else c ∷ first_word cs) ≡ prefix_len is_ascii_digit (c ∷ cs)
    by true space more = rw (space-other c space) refl
    by false other more = rw more refl

word-digits : (text : List ℕ) → take_while is_ascii_digit (first_word text) ≡ take_while is_ascii_digit text
unfolding first_word
word-digits [] = refl
word-digits (c ∷ cs) = by (c == 32) refl (word-digits cs)
  where
    by : (s : Bool) → (c == 32) ≡ s → take_while is_ascii_digit (first_word cs) ≡ take_while is_ascii_digit cs
        → take_while is_ascii_digit (if s then [] else c ∷ first_word cs) ≡ take_while is_ascii_digit (c ∷ cs)
    by true space more = rw (space-other c space) refl
    by false other more = take_while-cons is_ascii_digit c (first_word cs) ∙ rw more (sym (take_while-cons is_ascii_digit c cs))

-- so the same number stands at the front of both
word-front : (text : List ℕ) → number_at_front (first_word text) ≡ number_at_front text
word-front text = front-same (first_word text) text (word-count text) (word-digits text)

-- the first word goes on over a byte that is no space
word-more : (text : List ℕ) (i d : ℕ) → i < length text → (get_or text i d == 32) ≡ false
    → first_word text ≡ take i text ++ first_word (drop i text)
    → first_word text ≡ take (i + 1) text ++ first_word (drop (i + 1) text)
unfolding first_word
word-more text i d within other word =
    word ∙ ap (λ (w : List ℕ). take i text ++ w) (at_drop_more first_word text i d within ∙ rw other refl)
    ∙ sym (append_assoc (take i text) (get_or text i d ∷ []) (first_word (drop (i + 1) text)))
    ∙ ap (λ (w : List ℕ). w ++ first_word (drop (i + 1) text)) (sym (take_more text i d within))

-- and so over the digits that the text begins with
word-over : (text : List ℕ) (i : ℕ) → i ≤ prefix_len is_ascii_digit text → first_word text ≡ take i text ++ first_word (drop i text)
word-over text zero low = refl
word-over text (suc i) low =
    let short = prefix_len-le-length is_ascii_digit text in
    let digit = prefix_len_passes is_ascii_digit text i 0 (omega arith) in
    rw (← add-one i) (word-more text i 0 (omega arith) (digit-other (get_or text i 0) digit) (word-over text i (omega arith)))

-- how long it is, by what comes after them
word-length : (text : List ℕ) (i : ℕ) → i ≡ prefix_len is_ascii_digit text → length (first_word text) ≡ i + length (first_word (drop i text))
word-length text i is =
    let short = prefix_len-le-length is_ascii_digit text in
    rw (word-over text i (omega arith)) (omega (arith, length-append (take i text) (first_word (drop i text)), length-take i text))

-- no number stands at the front
pub first-none : (text : List ℕ) → number_at_front text ≡ None → first_number text ≡ Err Number
unfolding first_number number_of
first-none text front = rw (read-none (first_word text) (word-front text ∙ front)) refl

-- a number, and then a space or the end
first-whole : (text : List ℕ) (n digits : ℕ) → number_at_front text ≡ Some (n, digits) → length (first_word (drop digits text)) ≡ 0
    → first_number text ≡ Ok (n, digits)
unfolding first_number number_of
first-whole text n digits front none =
    let size : digits ≡ length (first_word text) = omega (arith, word-length text digits (front-count text n digits front)) in
    rw (read-whole (first_word text) n digits (word-front text ∙ front) size, ← size) refl

pub first-at_space : (text : List ℕ) (n digits d : ℕ) → number_at_front text ≡ Some (n, digits) → digits < length text → get_or text digits d ≡ 32
    → first_number text ≡ Ok (n, digits)
unfolding first_word
first-at_space text n digits d front within space =
    first-whole text n digits front (at_drop_more (λ (t : List ℕ). length (first_word t)) text digits d within ∙ rw space refl)

pub first-at_end : (text : List ℕ) (n digits : ℕ) → number_at_front text ≡ Some (n, digits) → length text ≤ digits → first_number text ≡ Ok (n, digits)
unfolding first_word
first-at_end text n digits front past =
    first-whole text n digits front (at_drop_all (λ (t : List ℕ). length (first_word t)) text digits past)

-- another byte after the number stands in the word
pub first-bad : (text : List ℕ) (n digits d : ℕ) → number_at_front text ≡ Some (n, digits) → digits < length text → (get_or text digits d == 32) ≡ false
    → first_number text ≡ Err Number
unfolding first_number number_of
first-bad text n digits d front within other =
    let some = first_word-some text digits d within other in
    let size = word-length text digits (front-count text n digits front) in
    rw (read-part (first_word text) n digits (word-front text ∙ front) (λ all. omega arith)) refl
