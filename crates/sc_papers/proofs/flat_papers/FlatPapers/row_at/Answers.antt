use Rattle.std.proofs.Common.{subst}
use Rattle.sc_papers.specs.Market.{Market}
use Rattle.sc_papers.specs.Representation.{market_of}
use Rattle.sc_papers.specs.StudentRow.{IsRowAt}
use Rattle.sc_papers.proofs.ChoicePositions.{row-is}
use Rattle.sc_papers.proofs.flat_papers.FlatPapers.row_at.Goals as goal

pub returns : goal.returns
returns c =
    let m = market_of c.self.inside in
    subst (λ (n : Market). IsRowAt n c.args.student c.at.result.now) c.self.view_is
    (row-is m c.self.inside.positions c.self.inside.rows.items c.args.student c.at.result.now c.self.invariant.well_formed c.self.invariant.positions c.self.invariant.rows c.at.ensures)
