use Rattle.std.proofs.Common.{arith, take, ◌+◌, ◌++◌, ◌-◌, ◌∙◌}
use Rattle.std.proofs.lemmas.Nat.{mod_below}
use Rattle.sc_report.proofs.EndingLemmas.{part-long, put-taken}
use Rattle.sc_report.proofs.piece.Piece.put.Goals as goal

pub returns-clause-text : goal.returns-clause-text
returns-clause-text c =
    let at = c.args.at in
    let over = c.args.over.now in
    let long = c.copy_from_slice.ensures.len ∙ part-long over at 16 c.requires in
    put-taken over c.copy_from_slice.new.self at (at + 16 - at) c.from.result (omega (arith, c.requires)) (omega (arith, long, c.from.ensures, mod_below c.args.self.count 16 (omega arith)))
    ∙ (λ t. take at over ++ take (c.from.ensures t) (c.copy_from_slice.ensures.after t))
