use Rattle.std.proofs.Common.{ap, map, swap, sym, ◌∙◌}
use Rattle.indexmap.proofs.ReorderLemmas.{map-swap}
use Rattle.sc_papers.specs.Market.{Market}
use Rattle.sc_papers.proofs.papers.Papers.swap_students.Goals as goal

pub invariant_of-self : goal.invariant_of-self
invariant_of-self c =
    c.swap.ensures ∙ ap (λ rs. swap rs c.args.a c.args.b) c.self.invariant
    ∙ sym (map-swap (λ e. e.1) c.self.inside.flat.students c.args.a c.args.b) ∙ sym (ap (λ (m : Market). map (λ e. e.1) m.students) c.swap_students.ensures)
