use Rattle.std.proofs.Common.{ap, map, sym, ◌∙◌}
use Rattle.indexmap.specs.IndexMap.{move_index}
use Rattle.indexmap.proofs.SetLemmas.{map-move}
use Rattle.sc_papers.specs.Market.{Market}
use Rattle.sc_papers.proofs.papers.Papers.move_student.Goals as goal

pub invariant_of-self : goal.invariant_of-self
invariant_of-self c =
    c.move_index.ensures ∙ ap (λ rs. move_index rs c.args.from c.args.to) c.self.invariant
    ∙ sym (map-move (λ e. e.1) c.self.inside.flat.students c.args.from c.args.to) ∙ sym (ap (λ (m : Market). map (λ e. e.1) m.students) c.move_student.ensures)
