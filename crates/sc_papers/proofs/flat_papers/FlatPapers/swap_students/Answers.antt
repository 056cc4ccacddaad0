use Rattle.std.proofs.Common.{◌<◌, length, refl, subst, swap, sym, ap, ◌∙◌}
use Rattle.std.proofs.lemmas.List.Sorted.{IsPermutation-swap}
use Rattle.indexmap.proofs.ReorderLemmas.{map-swap}
use Rattle.sc_lottery.specs.Draw.{draw}
use Rattle.sc_papers.specs.EntryOrder.{with_swapped_students}
use Rattle.sc_papers.specs.Market.{Market, zone_at}
use Rattle.sc_papers.specs.Representation.{market_of}
use Rattle.sc_papers.specs.StudentRow.{row_of}
use Rattle.sc_papers.proofs.EntryOrder.{holds-reordered}
use Rattle.sc_papers.proofs.Representation.{Holds}
use Rattle.sc_papers.proofs.flat_papers.FlatPapers.swap_students.Goals as goal

exchanged : (c : goal.After-swap-2) → Holds (record c.self.inside { numbers = c.swap.new.self; rows = c.swap-2.new.self }) (with_swapped_students (market_of c.self.inside) c.args.a c.args.b)
exchanged c =
    let p = c.self.inside in
    let m = market_of p in
    let low = subst (λ (m : Market). c.args.a < length m.students) (sym c.self.view_is) c.requires.a in
    let high = subst (λ (m : Market). c.args.b < length m.students) (sym c.self.view_is) c.requires.b in
    holds-reordered p _ (swap m.students c.args.a c.args.b) (IsPermutation-swap m.students (swap m.students c.args.a c.args.b) c.args.a c.args.b low high refl) c.self.invariant refl refl refl
    (c.swap.ensures ∙ ap (λ ks. swap ks c.args.a c.args.b) c.self.invariant.numbers ∙ sym (map-swap (λ e. e.0) m.students c.args.a c.args.b))
    (c.swap-2.ensures ∙ ap (λ rs. swap rs c.args.a c.args.b) c.self.invariant.rows
    ∙ sym (map-swap (λ e. row_of (zone_at m) p.positions e.0 (draw p.lottery e.0) e.1) m.students c.args.a c.args.b)) refl

pub invariant_of-self : goal.invariant_of-self
invariant_of-self c = (exchanged c).0

pub returns : goal.returns
returns c = (exchanged c).1 ∙ ap (λ (m : Market). with_swapped_students m c.args.a c.args.b) c.self.view_is
