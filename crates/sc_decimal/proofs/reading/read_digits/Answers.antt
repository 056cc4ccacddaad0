use Rattle.std.proofs.Common.{◌≡◌, false, true, get_or, length, refl, sym, ◌∙◌, arith}
use Rattle.std.specs.Prelude.{nat_le}
use Rattle.std.specs.Char.{is_ascii_digit}
use Rattle.std.proofs.lemmas.Bool.Decides.{nat_tests}
use Rattle.sc_decimal.proofs.Digits.{pow-room}
use Rattle.sc_decimal.proofs.FirstDigits.{digit-more, ends-before, ends-with, no-digits, ten-digits}
use Rattle.sc_decimal.proofs.reading.read_digits.Goals as goal

pub loop-index-init : goal.loop-index-init
loop-index-init c = no-digits c.args.text.now

pub returns-then-digit-gt9 : goal.returns-then-digit-gt9
returns-then-digit-gt9 c =
    let text = c.args.text.now in
    let index = c.loop-index.index in
    let over = c.if-digit-gt9.true in
    let large : nat_le c.digit_value-digit.result 9 ≡ false = grind (arith, nat_tests) in
    let other : is_ascii_digit (get_or text index 0) ≡ false = sym c.digit_value-digit.ensures.decides ∙ large in
    c.written.ensures ∙ sym (ends-before text index 0 c.loop-index.number c.loop-index.invariant (omega arith) other)

pub returns-then-index-eq-MOST_DIGITS : goal.returns-then-index-eq-MOST_DIGITS
returns-then-index-eq-MOST_DIGITS c =
    let text = c.args.text.now in
    let nine = c.if-index-eq-MOST_DIGITS.true in
    let few = c.if-digit-gt9.false in
    let small : nat_le c.digit_value-digit.result 9 ≡ true = grind (arith, nat_tests) in
    let digit : is_ascii_digit (get_or text c.loop-index.index 0) ≡ true = sym c.digit_value-digit.ensures.decides ∙ small in
    sym (ten-digits text 0 c.loop-index.number (rw nine at c.loop-index.invariant) (omega arith) (rw nine at digit))

pub overflow_mul-number : goal.overflow_mul-number
overflow_mul-number c =
    let short = c.loop-index.invariant.short in
    let room = pow-room c.loop-index.index (omega arith) in
    let small = c.loop-index.invariant.small in
    omega arith

pub overflow_add-number : goal.overflow_add-number
overflow_add-number c =
    let index = c.loop-index.index in
    let few = c.if-digit-gt9.false in
    let short = c.loop-index.invariant.short in
    let room = pow-room index (omega arith) in
    let small = c.loop-index.invariant.small in
    omega arith

pub loop-index-preserved : goal.loop-index-preserved
loop-index-preserved c =
    let text = c.args.text.now in
    let index = c.loop-index.index in
    let few = c.if-digit-gt9.false in
    let small : nat_le c.digit_value-digit.result 9 ≡ true = grind (arith, nat_tests) in
    let digit : is_ascii_digit (get_or text index 0) ≡ true = sym c.digit_value-digit.ensures.decides ∙ small in
    let short = c.loop-index.invariant.short in
    rw (c.digit_value-digit.ensures.value digit) (digit-more text index 0 c.loop-index.number c.loop-index.invariant (omega arith) digit (omega arith))

pub returns : goal.returns
returns c =
    let text = c.args.text.now in
    let end : c.loop-index.index ≡ length text = omega arith in
    c.written-2.ensures ∙ sym (ends-with text (length text) c.loop-index.number (rw end at c.loop-index.invariant) refl)
