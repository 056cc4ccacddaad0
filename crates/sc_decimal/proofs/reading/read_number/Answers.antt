use Rattle.std.proofs.Common.{◌≡◌, Some, None, rules, sym}
use Rattle.sc_decimal.specs.Number.{number_at_front}
use Rattle.sc_decimal.proofs.FirstDigits.{read-none, read-part, read-whole}
use Rattle.sc_decimal.proofs.reading.read_number.Goals as goal

pub returns-in-Some : goal.returns-in-Some
returns-in-Some c =
    let first : number_at_front c.args.text.now ≡ Some (c.in-Some.number, c.in-Some.digits) = search rules in
    sym (read-whole c.args.text.now _ _ first c.if-digits-text.true)

pub returns-in_default : goal.returns-in_default
returns-in_default c =
    let first : number_at_front c.args.text.now ≡ Some (c.in-Some.number, c.in-Some.digits) = search rules in
    sym (read-part c.args.text.now _ _ first c.if-digits-text.false)

pub returns-in_default-2 : goal.returns-in_default-2
returns-in_default-2 c =
    let first : number_at_front c.args.text.now ≡ None = search rules in
    sym (read-none c.args.text.now first)
