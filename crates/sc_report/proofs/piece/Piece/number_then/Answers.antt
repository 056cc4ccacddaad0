use Rattle.std.proofs.Common.{◌+◌, ◌-◌, ◌++◌, ap, arith, decimal, drop, length, sym, ◌∙◌}
use Rattle.std.proofs.lemmas.List.{drop-replicate, take-take}
use Rattle.sc_report.proofs.EndingLemmas.{number-made, number-short}
use Rattle.sc_report.proofs.piece.Piece.number_then.Goals as goal

pub write_digits-start-requires : goal.write_digits-start-requires
write_digits-start-requires c = (omega (arith, number-short c.from.result (omega (arith, c.from.ensures))), omega arith)

pub returns : goal.returns
returns c =
    let n = c.args.number in
    let byte = c.args.byte in
    let start = c.write_digits-start.result in
    let place = ap (λ k. start + length (decimal k)) (sym c.from.ensures) ∙ c.write_digits-start.ensures.start in
    let written = c.write_digits-start.ensures.written ∙ (λ t. decimal (c.from.ensures t) ++ drop-replicate 15 32 byte t) in
    number-made n byte start c.write_digits-start.new.buf c.in-Some.bytes.now (omega arith) place written
    (c.in-Some.ensures.cases.same ∙ take-take 16 (32 - start) (drop start c.write_digits-start.new.buf) (omega (arith, place)))
