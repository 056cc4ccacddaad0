use Rattle.std.proofs.Common.{ap, arith, take, ◌+◌, ◌++◌, ◌-◌, ◌∙◌}
use Rattle.sc_report.specs.Endings.{piece_text}
use Rattle.sc_report.proofs.EndingLemmas.{part-long, put-taken}
use Rattle.sc_report.proofs.piece.put_line.Goals as goal

pub returns-clause-text : goal.returns-clause-text
returns-clause-text c =
    let at = c.args.at in
    let over = c.args.over.now in
    let long = c.put.ensures.room ∙ c.put-count.ensures.room ∙ part-long over at 32 c.requires in
    put-taken over c.put.new.over at (at + 32 - at) c.put.result (omega (arith, c.requires)) (omega (arith, long, c.put.ensures.end, c.put-count.ensures.end))
    ∙ ap (λ more. take at over ++ more) (c.put.ensures.text ∙ ap (λ front. front ++ piece_text c.args.ending) c.put-count.ensures.text)
