use Rattle.std.proofs.Common.{ap, remove, map, ◌∙◌}
use Rattle.sc_ledgers.specs.Ends.{place_told}
use Rattle.sc_ledgers.proofs.TurnEnds.{map-remove}
use Rattle.sc_ledgers.proofs.ends.Ends.remove.Goals as goal

pub returns : goal.returns
returns c =
    ap (map place_told) c.remove.ensures.items
    ∙ map-remove place_told c.self.inside.places.items c.args.turn
    ∙ ap (λ ends. remove ends c.args.turn) c.self.view_is
