use Rattle.std.proofs.Common.{arith, length, take}
use Rattle.std.proofs.lemmas.Grind.{common_steps}
use Rattle.sc_report.proofs.KnownLemmas.{GivesAtMost-more, ReadsWhole-err}
use Rattle.sc_report.proofs.whole.read_whole.Goals as goal

pub returns-in_err-read_piece-clause-bytes : goal.returns-in_err-read_piece-clause-bytes
returns-in_err-read_piece-clause-bytes g c =
    ReadsWhole-err _ _ _ _ _ c.from_residual-in_err-read_piece.ensures.0
    (GivesAtMost-more _ (length (take c.min-room.result c.deref_mut.result.now)) _ _ _ c.pieces.given.items
    c.pieces.invariant.consumed c.in_err-read_piece.ensures.takes.few (grind (arith, common_steps)))
