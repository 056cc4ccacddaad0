use Rattle.std.proofs.Common.{◌≡◌, ◌<◌, ap, sym, ◌∙◌, length, get_or}
use Rattle.std.proofs.lemmas.List.Sums.{fold_more}
use Rattle.sc_region.specs.Groups.{joined, joined_list, position_of}
use Rattle.sc_region.proofs.Joining.{joined-whole}
use Rattle.sc_region.proofs.grouping.join_list.Goals as goal

pub loop-school-preserved : goal.loop-school-preserved
unfolding joined_list
loop-school-preserved c =
    let m = c.args.papers.now in
    let xs = c.args.list.now in
    let at = c.loop-school.school-index in
    let s = c.school-item.result in
    let low : at < length xs = c.loop-school-test.true in
    let before = c.loop-school.invariant in
    let there : c.position_of.result ≡ position_of m (get_or xs at s) = c.position_of.ensures.position ∙ ap (position_of m) c.school-item.is in (
      c.join.ensures ∙ (λ t. joined (before.0 t) (before.1 t) (there t))
          ∙ sym (fold_more (λ g s. joined g (position_of m c.args.first) (position_of m s)) c.args.groups.now.items xs at s low),
      before.1,
      ap length c.join.ensures ∙ joined-whole m c.loop-school.groups.items c.position_of-first_position.result c.position_of.result before.2,
    )
