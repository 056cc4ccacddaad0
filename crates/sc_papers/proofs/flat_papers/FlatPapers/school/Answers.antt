use Rattle.std.proofs.Common.{nat_eq, position, sym, ◌∙◌, ap}
use Rattle.sc_papers.specs.Market.{Market, school_of, schools_of}
use Rattle.sc_papers.specs.Representation.{market_of}
use Rattle.sc_papers.proofs.Keys.{no-school-there, school-there}
use Rattle.sc_papers.proofs.flat_papers.FlatPapers.school.Goals as goal

pub returns-in_err-position : goal.returns-in_err-position
returns-in_err-position c = c.from_residual.ensures ∙ no-school-there c.args.self.now c.args.school (sym c.in_err-position.ensures)

pub returns : goal.returns
returns c =
    let found = c.in_ok-found.ensures in
    let at = ap (λ (m : Market). position (nat_eq c.args.school) (schools_of m)) c.self.view_is in
    school-there (market_of c.self.inside) c.args.school _ c.in_ok-position.position c.in_ok-found.found.now
    (at ∙ sym c.in_ok-position.ensures) (sym found.entry) found.value
    ∙ ap (λ (m : Market). school_of m c.args.school) c.self.view_is
