use Rattle.std.proofs.Common.{◌≡◌, take, ◌∙◌, arith, rules}
use Rattle.sc_decimal.specs.Number.{number_at_front}
use Rattle.sc_decimal.proofs.FirstDigits.{front-window}
use Rattle.sc_decimal.proofs.reading.number_at_front.Goals as goal

pub returns-then-text-gt-MOST_DIGITS : goal.returns-then-text-gt-MOST_DIGITS
returns-then-text-gt-MOST_DIGITS c =
    let window : c.read_digits.result ≡ number_at_front (take 10 c.args.text.now) = search rules in
    window ∙ front-window c.args.text.now (omega arith)
