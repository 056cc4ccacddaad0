use Rattle.std.proofs.Common.{◌-◌, Some, length, refl, ap, ◌∙◌}
use Rattle.indexmap.specs.IndexMap.{move_index}
use Rattle.indexmap.proofs.RemoveLemmas.{remove-moved_pop}
use Rattle.sc_papers.proofs.flat_papers.number_table.NumberTable.remove.Goals as goal

pub returns : goal.returns
returns c =
    let last = ap (λ n. n - 1) (c.len-last.ensures ∙ c.self.inside.order.ok.0 ∙ ap length c.self.view_is) in
    (remove-moved_pop c.args.self.now c.move_index.new.self c.pop.new.self c.args.position (Some c.pop.result) c.requires
    (c.move_index.ensures ∙ ap (λ n. move_index c.args.self.now c.args.position n) last) c.pop.ensures refl).1
