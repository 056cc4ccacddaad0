use Rattle.std.proofs.Common.{◌+◌, Some, None, add-one, rules, arith}
use Rattle.std.proofs.lemmas.Bool.{false_from_ne_true}
use Rattle.std.proofs.lemmas.List.{take_rest}
use Rattle.memchr.specs.Find.{IsFirstByte, is_byte}
use Rattle.sc_lines.proofs.SplitWords.{split-found, split-nowhere}
use Rattle.sc_lines.proofs.numbers.split_word.Goals as goal

pub returns-in-Some : goal.returns-in-Some
returns-in-Some c =
    let text = c.args.text.now in
    let first : IsFirstByte (is_byte 32) text (Some c.in-Some.end) = search rules in
    rw (take_rest text (c.in-Some.end + 1), add-one c.in-Some.end)
    (split-found c.in-Some.end text first.0.high (λ j below. false_from_ne_true _ (first.0.before j (omega arith) below)) first.1)

pub returns-in-None : goal.returns-in-None
returns-in-None c =
    let text = c.args.text.now in
    let nowhere : IsFirstByte (is_byte 32) text None = search rules in
    split-nowhere text (λ j below. false_from_ne_true _ (nowhere j (omega arith) below))
