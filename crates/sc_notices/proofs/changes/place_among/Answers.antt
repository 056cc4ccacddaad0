use Rattle.std.proofs.Common.{◌∙◌, Some, ap, sym}
use Rattle.sc_reasons.specs.declared.entrants.Entrant.{Entrant}
use Rattle.sc_notices.proofs.ChangeLemmas.{searched-nobody, searched-place}
use Rattle.sc_notices.proofs.changes.place_among.Goals as goal

pub returns-in-Ok : goal.returns-in-Ok
returns-in-Ok c m a are hold =
    ap (λ (one : Entrant). Some one.held) (sym c.index-places-index.is)
    ∙ searched-place m a c.args.numbers.now c.args.places.now c.args.student c.requires are hold c.in-Ok.index c.index-places-index.result c.in-Ok.ensures.position c.index-places-index.is

pub returns-in-Err : goal.returns-in-Err
returns-in-Err c m a are hold =
    searched-nobody m a c.args.numbers.now c.args.places.now c.args.student c.requires are _ c.in-Err.ensures.position
