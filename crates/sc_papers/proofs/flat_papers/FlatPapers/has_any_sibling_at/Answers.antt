use Rattle.std.proofs.Common.{◌∙◌}
use Rattle.sc_papers.specs.Market.{siblings_of, student_at}
use Rattle.sc_papers.proofs.ChoicePositions.{any-there}
use Rattle.sc_papers.proofs.flat_papers.FlatPapers.has_any_sibling_at.Goals as goal

pub returns : goal.returns
returns c =
    let m = c.args.self.now in
    c.is_among.ensures
    ∙ any-there m (siblings_of m (student_at m c.args.student)) c.sibling_positions_at.result.now c.args.school c.args.at c.sibling_positions_at.ensures c.requires.school
