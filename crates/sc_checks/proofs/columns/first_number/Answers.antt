use Rattle.std.proofs.Common.{◌≡◌, ◌==◌, false, get_or, None, Some, sym, rules}
use Rattle.sc_decimal.specs.Number.{number_at_front}
use Rattle.sc_intake.proofs.FirstNumber.{first-at_end, first-at_space, first-bad, first-none}
use Rattle.sc_checks.proofs.columns.first_number.Goals as goal
use Rattle.sc_checks.proofs.columns.first_number.Goals.{else-digits-text-via-then-digits-text+else-text-digits-ne32, else-digits-text-via-else-digits-text}

pub returns-in_default : goal.returns-in_default
returns-in_default c =
    let front : number_at_front c.args.text.now ≡ None = search rules in
    sym (first-none c.args.text.now front)

pub returns-then-text-digits-ne32 : goal.returns-then-text-digits-ne32
returns-then-text-digits-ne32 c =
    let text = c.args.text.now in
    let front : number_at_front text ≡ Some (c.in-Some.number, c.in-Some.digits) = search rules in
    let other : (get_or text c.in-Some.digits 0 == 32) ≡ false = search rules in
    sym (first-bad text c.in-Some.number c.in-Some.digits 0 front c.if-digits-text.true other)

pub returns : goal.returns
returns c =
    let text = c.args.text.now in
    let front : number_at_front text ≡ Some (c.in-Some.number, c.in-Some.digits) = search rules in
    elim c.else-digits-text.branch [
      | else-digits-text-via-then-digits-text+else-text-digits-ne32 w ↦
          let space : get_or text c.in-Some.digits 0 ≡ 32 = search rules in
          sym (first-at_space text c.in-Some.number c.in-Some.digits 0 front w.if-digits-text.true space)
      | else-digits-text-via-else-digits-text w ↦ sym (first-at_end text c.in-Some.number c.in-Some.digits front w.if-digits-text.false)
    ]
