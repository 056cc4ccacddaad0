use Rattle.std.proofs.Common.{◌≡◌, ap, length, arith, rules}
use Rattle.sc_intake.specs.Plain.{after_line}
use Rattle.sc_intake.proofs.LineStarts.{after_line-cut}
use Rattle.sc_intake.proofs.plain_records.line_len.Goals as goal

pub overflow_sub-result : goal.overflow_sub-result
overflow_sub-result c =
    let short = (after_line-cut c.args.text.now).0 in
    let rest : c.split_line.result.1.now ≡ after_line c.args.text.now = search rules in
    let size = ap length rest in
    omega arith

pub returns-clause-rest : goal.returns-clause-rest
returns-clause-rest c =
    let rest : c.split_line.result.1.now ≡ after_line c.args.text.now = search rules in
    rw rest (after_line-cut c.args.text.now).1

pub returns-clause-some : goal.returns-clause-some
returns-clause-some c = λ some.
    let short = (after_line-cut c.args.text.now).0 in
    let rest : c.split_line.result.1.now ≡ after_line c.args.text.now = search rules in
    let size = ap length rest in
    omega arith
