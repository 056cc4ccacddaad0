use Rattle.std.proofs.Common.{ap, slice_get, sym, ◌∙◌}
use Rattle.std.specs.Option.{option_map}
use Rattle.sc_papers.specs.Market.{Market, schools_of, seats_of}
use Rattle.sc_papers.specs.Representation.{market_of}
use Rattle.sc_papers.proofs.Keys.{seats-there}
use Rattle.sc_papers.proofs.flat_papers.FlatPapers.seats_at.Goals as goal

pub returns : goal.returns
returns c =
    let found = c.in_ok-school.ensures in
    seats-there (market_of c.self.inside) c.args.position _ c.in_ok-school.school.now (sym found.entry) found.value
    ∙ ap (λ (m : Market). option_map (seats_of m) (slice_get (schools_of m) c.args.position)) c.self.view_is
