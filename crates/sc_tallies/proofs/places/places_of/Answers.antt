use Rattle.std.proofs.Common.{◌∙◌, ap, sym, ◌++◌, ◌∷◌, [], map, take}
use Rattle.std.proofs.lemmas.List.{map-append}
use Rattle.sc_papers.specs.Assignment.{assigned}
use Rattle.sc_papers.specs.Market.{students_of}
use Rattle.sc_tallies.proofs.Tallying.{take-one}
use Rattle.sc_tallies.proofs.places.places_of.Goals as goal

pub loop-position-preserved : goal.loop-position-preserved
loop-position-preserved c =
    let has = assigned c.args.assignment.now in
    let first = take c.loop-position.position (students_of c.args.papers.now) in
    c.in_ok-push.ensures.items ∙ (λ t. c.loop-position.invariant t ++ c.get_near-place.ensures t ∷ [])
    ∙ sym (map-append has first (c.in-Some.student ∷ []))
    ∙ ap (map has) (sym (take-one (students_of c.args.papers.now) c.loop-position.position c.in-Some.student (sym c.in-Some.ensures)))
