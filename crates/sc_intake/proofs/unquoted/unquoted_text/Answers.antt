use Rattle.std.proofs.Common.{◌≡◌, None, rules, sym, ◌∙◌}
use Rattle.memchr.specs.Find.{IsFirstByte, is_byte}
use Rattle.sc_intake.specs.Plain.{cut}
use Rattle.sc_intake.proofs.PlainCutting.{cut-unquoted}
use Rattle.sc_intake.proofs.unquoted.unquoted_text.Goals as goal

pub returns-in-Some : goal.returns-in-Some
returns-in-Some c =
    let records = c.args.records.now in
    let text = c.in-Some.text.now in
    let left : records.left ≡ cut records.by_lines text = search rules in
    let none : c.memchr.result ≡ None = search rules in
    let nowhere : IsFirstByte (is_byte 34) text None = rw none at c.memchr.ensures in
    sym (left ∙ cut-unquoted records.by_lines text nowhere)
