use Rattle.std.proofs.Common.{◌++◌, ap, drop, length, refl, replicate, take, ◌∙◌}
use Rattle.std.specs.Prelude.{◌%◌}
use Rattle.sc_report.proofs.EndingLemmas.{piece-made}
use Rattle.sc_report.proofs.piece.Piece.of.Goals as goal

pub returns : goal.returns
returns c =
    let text = c.args.text.now in
    let rest = drop (length text) (replicate 16 0) in
    ap (λ bytes. take (length text % 16) (bytes ++ rest)) c.copy_from_slice.ensures.after ∙ piece-made text rest (length text) c.requires refl
