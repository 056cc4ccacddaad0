use Rattle.std.proofs.Common.{Some, ap, get_or, sym, ◌∙◌}
use Rattle.sc_papers.specs.Key.{key_of}
use Rattle.sc_reasons.proofs.CutoffLemmas.{row-read}
use Rattle.sc_reasons.proofs.ReasonLemmas.{row-made}
use Rattle.sc_reasons.proofs.reason.row_of.Goals as goal

pub returns : goal.returns
returns c m a rank are got =
    let i = c.args.student in
    let row = c.index-rows-position.result in
    let read = c.index-rows-position.is ∙ ap (λ p. get_or c.args.rows.now p row) c.position.ensures ∙ row-read m a c.args.rows.now got.school c.args.choice.now.position row are got.place in
    got.row ∙ ap Some (sym (row-made m a i got.school row c.reason_in.result (c.reason_in.ensures (key_of m i got.school) (got.class ∙ sym c.class.ensures)) read))
