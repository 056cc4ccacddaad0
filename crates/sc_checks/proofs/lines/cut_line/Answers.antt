use Rattle.std.proofs.Common.{◌+◌, Some, None, sym, ◌∙◌, add-one, rules, arith}
use Rattle.std.proofs.lemmas.Bool.{false_from_ne_true}
use Rattle.std.proofs.lemmas.List.{take_rest}
use Rattle.memchr.specs.Find.{IsFirstByte, is_byte2}
use Rattle.sc_intake.proofs.LineCut.{line-found, line-whole}
use Rattle.sc_checks.proofs.RowLemmas.{next-found, next-whole}
use Rattle.sc_checks.proofs.lines.cut_line.Goals as goal

pub returns-in-Some-clause-bytes : goal.returns-in-Some-clause-bytes
returns-in-Some-clause-bytes c =
    let text = c.args.rest.text.now in
    let first : IsFirstByte (is_byte2 10 13) text (Some c.in-Some.end) = search rules in
    sym (line-found c.in-Some.end text first.0.high (λ j below. false_from_ne_true _ (first.0.before j (omega arith) below)) first.1).line

pub returns-in-Some-clause-text : goal.returns-in-Some-clause-text
returns-in-Some-clause-text c =
    let text = c.args.rest.text.now in
    let first : IsFirstByte (is_byte2 10 13) text (Some c.in-Some.end) = search rules in
    rw (take_rest text (c.in-Some.end + 1), add-one c.in-Some.end)
    (sym (line-found c.in-Some.end text first.0.high (λ j below. false_from_ne_true _ (first.0.before j (omega arith) below)) first.1).rest)

pub returns-in-Some-clause-line : goal.returns-in-Some-clause-line
returns-in-Some-clause-line c =
    let text = c.args.rest.text.now in
    let first : IsFirstByte (is_byte2 10 13) text (Some c.in-Some.end) = search rules in
    let number = rw (take_rest text c.in-Some.end) at c.line_after-next.ensures.number in
    number ∙ sym (next-found c.in-Some.end c.args.rest.line text first.0.high (λ j below. false_from_ne_true _ (first.0.before j (omega arith) below)) first.1)

pub returns-in-None-clause-bytes : goal.returns-in-None-clause-bytes
returns-in-None-clause-bytes c =
    let text = c.args.rest.text.now in
    let nowhere : IsFirstByte (is_byte2 10 13) text None = search rules in
    sym (line-whole text (λ j below. false_from_ne_true _ (nowhere j (omega arith) below))).line

pub returns-in-None-clause-text : goal.returns-in-None-clause-text
returns-in-None-clause-text c =
    let text = c.args.rest.text.now in
    let nowhere : IsFirstByte (is_byte2 10 13) text None = search rules in
    sym (line-whole text (λ j below. false_from_ne_true _ (nowhere j (omega arith) below))).rest

pub returns-in-None-clause-line : goal.returns-in-None-clause-line
returns-in-None-clause-line c =
    let text = c.args.rest.text.now in
    let nowhere : IsFirstByte (is_byte2 10 13) text None = search rules in
    sym (next-whole c.args.rest.line text (λ j below. false_from_ne_true _ (nowhere j (omega arith) below)))
