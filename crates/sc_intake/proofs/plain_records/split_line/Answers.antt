use Rattle.std.proofs.Common.{◌+◌, Some, None, sym, add-one, rules, arith}
use Rattle.std.proofs.lemmas.Bool.{false_from_ne_true}
use Rattle.std.proofs.lemmas.List.{take_rest}
use Rattle.memchr.specs.Find.{IsFirstByte, is_byte2}
use Rattle.sc_intake.proofs.LineCut.{line-found, line-whole}
use Rattle.sc_intake.proofs.plain_records.split_line.Goals as goal

pub returns-in-Some-clause-line : goal.returns-in-Some-clause-line
returns-in-Some-clause-line c =
    let text = c.args.text.now in
    let first : IsFirstByte (is_byte2 10 13) text (Some c.in-Some.end) = search rules in
    sym (line-found c.in-Some.end text first.0.high (λ j below. false_from_ne_true _ (first.0.before j (omega arith) below)) first.1).line

pub returns-in-Some-clause-rest : goal.returns-in-Some-clause-rest
returns-in-Some-clause-rest c =
    let text = c.args.text.now in
    let first : IsFirstByte (is_byte2 10 13) text (Some c.in-Some.end) = search rules in
    rw (take_rest text (c.in-Some.end + 1), add-one c.in-Some.end)
    (sym (line-found c.in-Some.end text first.0.high (λ j below. false_from_ne_true _ (first.0.before j (omega arith) below)) first.1).rest)

pub returns-in-None-clause-line : goal.returns-in-None-clause-line
returns-in-None-clause-line c =
    let text = c.args.text.now in
    let nowhere : IsFirstByte (is_byte2 10 13) text None = search rules in
    sym (line-whole text (λ j below. false_from_ne_true _ (nowhere j (omega arith) below))).line

pub returns-in-None-clause-rest : goal.returns-in-None-clause-rest
returns-in-None-clause-rest c =
    let text = c.args.text.now in
    let nowhere : IsFirstByte (is_byte2 10 13) text None = search rules in
    sym (line-whole text (λ j below. false_from_ne_true _ (nowhere j (omega arith) below))).rest
