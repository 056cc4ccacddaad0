use Rattle.std.proofs.Common.{◌≡◌, sym, ◌∙◌, map, max, min}
use Rattle.std.specs.Prelude.{slice_index}
use Rattle.std.proofs.lemmas.List.{get_or_read}
use Rattle.sc_region.specs.Groups.{joined, moved}
use Rattle.sc_region.proofs.Roots.{joined-nothing}
use Rattle.sc_region.proofs.grouping.join.Goals as goal

pub returns-then-first-second : goal.returns-then-first-second
unfolding joined
returns-then-first-second c =
    let numbers = c.args.groups.now.items in
    let first : c.index-first.result.now ≡ slice_index numbers c.args.a = get_or_read numbers c.args.a c.index-first.result.now c.requires.first c.index-first.ensures 0 in
    let second : c.index-second.result.now ≡ slice_index numbers c.args.b = get_or_read numbers c.args.b c.index-second.result.now c.requires.second c.index-second.ensures 0 in
    c.renumber.ensures
    ∙ (λ t. map (moved ((c.min.ensures ∙ (λ s. min (first s) (second s))) t) ((c.max.ensures ∙ (λ s. max (first s) (second s))) t)) numbers)

pub returns-else-first-second : goal.returns-else-first-second
returns-else-first-second c =
    let numbers = c.args.groups.now.items in
    let first : c.index-first.result.now ≡ slice_index numbers c.args.a = get_or_read numbers c.args.a c.index-first.result.now c.requires.first c.index-first.ensures 0 in
    let second : c.index-second.result.now ≡ slice_index numbers c.args.b = get_or_read numbers c.args.b c.index-second.result.now c.requires.second c.index-second.ensures 0 in
    sym (joined-nothing numbers c.args.a c.args.b (sym first ∙ c.if-first-second.false ∙ second))
