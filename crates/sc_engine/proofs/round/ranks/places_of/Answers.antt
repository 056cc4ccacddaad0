use Rattle.std.proofs.Common.{◌<◌, ◌∙◌, ap, arith, get_or, length, sym, ◌++◌, ◌∷◌, [], map, take}
use Rattle.std.proofs.lemmas.List.{map-append}
use Rattle.std.proofs.lemmas.Map.Entries.{length-keys_of}
use Rattle.std.proofs.lemmas.Option.{slice_get-get_or}
use Rattle.sc_papers.specs.Market.{students_of}
use Rattle.sc_papers.proofs.Positions.{place-position}
use Rattle.sc_engine.specs.RoundView.{next_of}
use Rattle.sc_engine.proofs.Settling.{take-next}
use Rattle.sc_engine.proofs.round.ranks.places_of.Goals as goal

pub loop-position-preserved : goal.loop-position-preserved
loop-position-preserved c =
    let m = c.args.papers.now in
    let k = c.loop-position.position in
    let students = students_of m in
    let next = next_of m c.args.ranks.now in
    let i = get_or students k 0 in
    let low : k < length students = omega (arith, c.loop-position-test.true, length-keys_of m.students, c.students_len-position-end.ensures.count) in
    let here = slice_get-get_or students k 0 low in
    let place = c.choice_at.ensures i (place-position m c.students_len-position-end.ensures.well_formed k i here) in
    c.in_ok-push.ensures.items ∙ (λ t. c.loop-position.invariant t ++ place t ∷ [])
    ∙ sym (map-append next (take k students) (i ∷ [])) ∙ ap (map next) (sym (take-next students k i here))
