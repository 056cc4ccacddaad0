use Rattle.std.proofs.Common.{◌≡◌, ◌<◌, ℕ, List, Option, ap, arith, length, map, slice_index_or, slice_set, if◌then◌else◌, nat_eq, None, Some, subst, sym}
use Rattle.std.proofs.lemmas.List.{length-map}
use Rattle.sc_papers.specs.SchoolPositions.{position_told}
use Rattle.sc_papers.specs.declared.school_positions.TheConstants.{NO_POSITION}
use Rattle.sc_papers.proofs.SchoolPositions.{told-put}
use Rattle.sc_papers.proofs.school_positions.SchoolPositions.put.Goals as goal

pub returns : goal.returns
returns c s =
    let kept = c.self.inside.by_number.items in
    let school = c.args.school in
    let position = c.args.position in
    let within : school < length kept = omega (arith, c.requires.room, ap (λ (t : List (Option ℕ)). length t) c.self.view_is, length-map kept position_told) in
    let low : position < NO_POSITION = omega (arith, c.requires.position) in
    subst (λ at. slice_index_or (map position_told (slice_set kept at position)) s None ≡ (if nat_eq s school then Some position else slice_index_or c.args.self.now s None)) (sym c.get.ensures.value)
    (subst (λ told. slice_index_or (map position_told (slice_set kept school position)) s None ≡ (if nat_eq s school then Some position else slice_index_or told s None)) c.self.view_is
    (told-put kept school position s within low))
