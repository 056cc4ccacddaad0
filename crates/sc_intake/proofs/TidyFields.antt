-- Fields of a tidy text: a number, and numbers with one space between two.
use Rattle.std.proofs.Common.{◌≡◌, ℕ, ◌<◌, ◌≤◌, ◌==◌, Bool, true, false, List, [], ◌∷◌, ◌++◌, length, reverse, take, drop, refl, sym, ap, ◌∙◌, append_assoc, arith, Option, Some, None, Ok}
use Rattle.std.specs.Prelude.{if◌then◌else◌, ok_or, option_map}
use Rattle.std.specs.Char.{is_ascii_digit}
use Rattle.std.specs.List.{list_all, list_any, prefix_len, take_while}
use Rattle.std.proofs.lemmas.Bool.{and_parts}
use Rattle.std.proofs.lemmas.Bool.Decides.{nat_tests}
use Rattle.std.proofs.lemmas.List.{append-nil, length-reverse, reverse-append, reverse-reverse, take-append-drop}
use Rattle.std.proofs.lemmas.List.Folds.{list_all-append, list_any-append}
use Rattle.std.proofs.lemmas.List.Sums.{prefix_len-le-length}
use Rattle.sc_decimal.specs.Number.{is_number, number_at_front, read_number, value_of}
use Rattle.sc_decimal.proofs.Digits.{digit-bounds, number-means}
use Rattle.sc_decimal.proofs.FirstDigits.{front-count}
use Rattle.sc_papers.specs.declared.school_no.TheConstants.SchoolNo.{GREATEST as greatest_school}
use Rattle.sc_intake.specs.Blanks.{is_blank, trim_end, trim_start, trimmed}
use Rattle.sc_intake.specs.Field.{is_within, number_of, numbers_after, numbers_in, word_of, words, words_after}
use Rattle.sc_intake.specs.Plain.{is_mark}
use Rattle.sc_intake.specs.Tidy.{AreSchools, TakesField, TakesNumber}
use Rattle.sc_intake.specs.declared.blanks.Blanks.TheVariants.{InLine}
use Rattle.sc_intake.specs.declared.fault.Cause.TheVariants.{Number}
use Rattle.sc_intake.proofs.Words.{numbers-more, numbers-word}

-- a text of digits alone, at least one
pub record AreDigits (digits : List ℕ) : Type 0 where
  pub some : 0 < length digits
  pub all : list_all is_ascii_digit digits ≡ true

-- whatever writes a number is digits alone
pub number-digits : (text : List ℕ) (n : ℕ) → number_of text ≡ Ok n → AreDigits text
unfolding number_of read_number
number-digits text n number = by (is_number text) refl number
  where
    by : (b : Bool) → is_number text ≡ b → ok_or (if b then Some (value_of text) else None) Number ≡ Ok n → AreDigits text
    by true is number = let means = number-means text is in record { some = omega (arith, means.some); all = means.digits }
    by false is number = cc number

-- a digit ends no field and is no quote, no blank and no space
digit-plain : (c : ℕ) → is_ascii_digit c ≡ true → (is_mark c ≡ false) × ((is_blank InLine c ≡ false) × ((c == 32) ≡ false))
digit-plain c digit =
    let low = (digit-bounds c digit).least in
    let quote : (c == 34) ≡ false = grind (arith, nat_tests) in
    let comma : (c == 44) ≡ false = grind (arith, nat_tests) in
    let lf : (c == 10) ≡ false = grind (arith, nat_tests) in
    let cr : (c == 13) ≡ false = grind (arith, nat_tests) in
    let space : (c == 32) ≡ false = grind (arith, nat_tests) in
    let tab : (c == 9) ≡ false = grind (arith, nat_tests) in
    (rw (quote, comma, lf, cr) refl, (rw (space, tab) refl, space))

pub digits-clean : (digits : List ℕ) → list_all is_ascii_digit digits ≡ true → list_any is_mark digits ≡ false
digits-clean [] all = refl
digits-clean (c ∷ cs) all =
    let parts = and_parts (is_ascii_digit c) (list_all is_ascii_digit cs) all in
    rw ((digit-plain c parts.0).0, digits-clean cs parts.1) refl

-- a text begins with no blank
abbrev pub NoBlank : List ℕ → Type 0
NoBlank text = trim_start (is_blank InLine) text ≡ text

pub no_blank-digits : (digits text : List ℕ) → AreDigits digits → NoBlank (digits ++ text)
no_blank-digits [] text are = absurd (omega (arith, are.some))
no_blank-digits (c ∷ cs) text are =
    let parts = and_parts (is_ascii_digit c) (list_all is_ascii_digit cs) are.all in
    rw (digit-plain c parts.0).1.0 refl

no_blank-alone : (digits : List ℕ) → AreDigits digits → NoBlank digits
no_blank-alone digits are = let whole = no_blank-digits digits [] are in rw (append-nil digits) at whole

-- the digits of a text read back
all-reverse : (digits : List ℕ) → list_all is_ascii_digit digits ≡ true → list_all is_ascii_digit (reverse digits) ≡ true
all-reverse [] all = refl
all-reverse (c ∷ cs) all =
    let parts = and_parts (is_ascii_digit c) (list_all is_ascii_digit cs) all in
    rw (reverse-append (c ∷ []) cs) (list_all-append is_ascii_digit (reverse cs) (c ∷ []) ∙ rw (all-reverse cs parts.1, parts.0) refl)

reverse-digits : (digits : List ℕ) → AreDigits digits → AreDigits (reverse digits)
reverse-digits digits are = record { some = omega (arith, are.some, length-reverse digits); all = all-reverse digits are.all }

-- a field that begins with no blank and ends with digits has no blanks around it
pub trimmed-digits : (part digits : List ℕ) → NoBlank (part ++ digits) → AreDigits digits → trimmed InLine (part ++ digits) ≡ part ++ digits
trimmed-digits part digits begins are =
    let back : NoBlank (reverse (part ++ digits)) = rw (reverse-append part digits) (no_blank-digits (reverse digits) (reverse part) (reverse-digits digits are)) in
    ap (trim_end (is_blank InLine)) begins ∙ ap reverse back ∙ reverse-reverse (part ++ digits)

-- digits and a space are a word, and what comes after it is cut alone
words-before : (piece digits text : List ℕ) → list_all is_ascii_digit digits ≡ true → words_after piece (digits ++ 32 ∷ text) ≡ word_of (piece ++ digits) ++ words text
unfolding words_after
words-before piece [] text all = ap (λ (w : List ℕ). word_of w ++ words text) (sym (append-nil piece))
words-before piece (c ∷ cs) text all =
    let parts = and_parts (is_ascii_digit c) (list_all is_ascii_digit cs) all in
    rw (digit-plain c parts.0).1.1 (words-before (piece ++ c ∷ []) cs text parts.1 ∙ ap (λ (w : List ℕ). word_of w ++ words text) (append_assoc piece (c ∷ []) cs))

-- digits alone are one word
words-alone : (piece digits : List ℕ) → list_all is_ascii_digit digits ≡ true → words_after piece digits ≡ word_of (piece ++ digits)
unfolding words_after
words-alone piece [] all = ap word_of (sym (append-nil piece))
words-alone piece (c ∷ cs) all =
    let parts = and_parts (is_ascii_digit c) (list_all is_ascii_digit cs) all in
    rw (digit-plain c parts.0).1.1 (words-alone (piece ++ c ∷ []) cs parts.1 ∙ ap word_of (append_assoc piece (c ∷ []) cs))

-- numbers of schools that stand before a place of a text, with a space after each
pub record SchoolsBefore (text rest schools : List ℕ) : Type 0 where
  pub part : List ℕ
  pub cut : text ≡ part ++ rest
  pub clean : list_any is_mark part ≡ false
  pub begins : (w : List ℕ) → NoBlank w → NoBlank (part ++ w)
  pub numbers : (w : List ℕ) → numbers_in (part ++ w) ≡ numbers_after schools (words w)
  pub ranged : list_all (is_within 1 greatest_school) schools ≡ true

-- a school more, and a space
pub schools-more : (text rest more old new : List ℕ) (n : ℕ) → SchoolsBefore text rest old → TakesNumber rest (32 ∷ more) n → is_within 1 greatest_school n ≡ true → new ≡ old ++ n ∷ []
    → SchoolsBefore text more new
schools-more text rest more old new n so takes school pushed =
    let digits = takes.digits in
    let are = number-digits digits n takes.number in
    let on : (w : List ℕ) → (so.part ++ (digits ++ 32 ∷ [])) ++ w ≡ so.part ++ (digits ++ 32 ∷ w) = λ w. append_assoc so.part (digits ++ 32 ∷ []) w ∙ ap (λ (t : List ℕ). so.part ++ t) (append_assoc digits (32 ∷ []) w) in
    record {
      part = so.part ++ (digits ++ 32 ∷ []);
      cut = so.cut ∙ ap (λ (t : List ℕ). so.part ++ t) takes.cut ∙ sym (on more);
      clean = list_any-append is_mark so.part (digits ++ 32 ∷ []) ∙ rw (so.clean, list_any-append is_mark digits (32 ∷ []), digits-clean digits are.all) refl;
      begins = λ w none. rw (on w) (so.begins (digits ++ 32 ∷ w) (no_blank-digits digits (32 ∷ w) are));
      numbers = λ w. ap numbers_in (on w) ∙ so.numbers (digits ++ 32 ∷ w) ∙ ap (numbers_after old) (words-before [] digits w are.all) ∙ numbers-word old digits (words w) are.some
          ∙ numbers-more old digits (words w) n takes.number ∙ ap (λ (ns : List ℕ). numbers_after ns (words w)) (sym pushed);
      ranged = rw pushed (list_all-append (is_within 1 greatest_school) old (n ∷ []) ∙ rw (so.ranged, school) refl);
    }

-- the last school
pub schools-last : (text rest after old new : List ℕ) (n : ℕ) → SchoolsBefore text rest old → TakesNumber rest after n → is_within 1 greatest_school n ≡ true → new ≡ old ++ n ∷ []
    → TakesField text after (AreSchools new)
unfolding numbers_after
schools-last text rest after old new n so takes school pushed =
    let digits = takes.digits in
    let are = number-digits digits n takes.number in
    let begins : NoBlank digits = no_blank-alone digits are in
    let whole : trimmed InLine (so.part ++ digits) ≡ so.part ++ digits = trimmed-digits so.part digits (so.begins digits begins) are in
    let ranged : list_all (is_within 1 greatest_school) (old ++ n ∷ []) ≡ true = list_all-append (is_within 1 greatest_school) old (n ∷ []) ∙ rw (so.ranged, school) refl in
    let word : words digits ≡ word_of digits ++ [] = words-alone [] digits are.all ∙ sym (append-nil (word_of digits)) in
    let numbers : numbers_in (so.part ++ digits) ≡ Ok (old ++ n ∷ []) =
    so.numbers digits ∙ ap (numbers_after old) word ∙ numbers-word old digits [] are.some ∙ numbers-more old digits [] n takes.number in
    record {
      field = so.part ++ digits;
      cut = so.cut ∙ ap (λ (t : List ℕ). so.part ++ t) takes.cut ∙ sym (append_assoc so.part digits after);
      clean = list_any-append is_mark so.part digits ∙ rw (so.clean, digits-clean digits are.all) refl;
      reads = rw (whole, pushed) (numbers, rw ranged refl);
    }

-- a number alone has no blanks around it
pub trimmed-number : (digits : List ℕ) (n : ℕ) → number_of digits ≡ Ok n → number_of (trimmed InLine digits) ≡ Ok n
trimmed-number digits n number =
    let are = number-digits digits n number in
    let begins : NoBlank digits = no_blank-alone digits are in
    ap number_of (trimmed-digits [] digits begins are) ∙ number

-- a number with how many digits a text begins with
abbrev counted : List ℕ → ℕ → ℕ × ℕ
counted text n = (n, prefix_len is_ascii_digit text)

-- the number at the front of a text is within it
pub front-short : (text : List ℕ) (n digits : ℕ) → number_at_front text ≡ Some (n, digits) → digits ≤ length text
front-short text n digits front = omega (arith, front-count text n digits front, prefix_len-le-length is_ascii_digit text)

-- and it is taken with the digits that write it
pub takes-front : (text : List ℕ) (n digits : ℕ) → number_at_front text ≡ Some (n, digits) → TakesNumber text (drop digits text) n
unfolding number_at_front number_of
takes-front text n digits front =
    let count = front-count text n digits front in
    record {
      digits = take digits text;
      cut = sym (take-append-drop digits text);
      number = rw count (by (read_number (take_while is_ascii_digit text)) front);
    }
  where
    by : (r : Option ℕ) → option_map (counted text) r ≡ Some (n, digits) → ok_or r Number ≡ Ok n
    by (Some m) same =
        let found : ℕ × ℕ = (m, prefix_len is_ascii_digit text) in
        let is : ℕ × ℕ = (n, digits) in
        let pair : found ≡ is = cc same in
        ap (λ (p : ℕ × ℕ). Ok p.0) pair
    by None same = cc same
