use Rattle.std.proofs.Common.{ap, ◌∙◌, map}
use Rattle.std.specs.Prelude.{slice_set}
use Rattle.sc_ledgers.specs.Ends.{place_told}
use Rattle.sc_ledgers.proofs.TurnEnds.{map-set}
use Rattle.sc_ledgers.proofs.ends.Ends.set.Goals as goal

pub returns : goal.returns
returns c =
    map-set place_told c.self.inside.places.items c.args.turn c.kept.result
    ∙ ap (slice_set (map place_told c.self.inside.places.items) c.args.turn) c.kept.ensures
    ∙ ap (λ ends. slice_set ends c.args.turn c.args.end) c.self.view_is
