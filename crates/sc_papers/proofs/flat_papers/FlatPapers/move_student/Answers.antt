use Rattle.std.proofs.Common.{refl, sym, ap, ◌∙◌}
use Rattle.indexmap.specs.IndexMap.{move_index}
use Rattle.indexmap.proofs.SetLemmas.{map-move}
use Rattle.sc_lottery.specs.Draw.{draw}
use Rattle.sc_papers.specs.EntryOrder.{with_moved_student}
use Rattle.sc_papers.specs.Market.{Market, zone_at}
use Rattle.sc_papers.specs.Representation.{market_of}
use Rattle.sc_papers.specs.StudentRow.{row_of}
use Rattle.sc_papers.proofs.EntryOrder.{holds-reordered, moved-items}
use Rattle.sc_papers.proofs.Representation.{Holds}
use Rattle.sc_papers.proofs.flat_papers.FlatPapers.move_student.Goals as goal

moved : (c : goal.After-move_index-2) → Holds (record c.self.inside { numbers = c.move_index.new.self; rows = c.move_index-2.new.self }) (with_moved_student (market_of c.self.inside) c.args.from c.args.to)
moved c =
    let p = c.self.inside in
    let m = market_of p in
    holds-reordered p _ (move_index m.students c.args.from c.args.to) (moved-items m.students c.args.from c.args.to) c.self.invariant refl refl refl
    (c.move_index.ensures ∙ ap (λ ks. move_index ks c.args.from c.args.to) c.self.invariant.numbers ∙ sym (map-move (λ e. e.0) m.students c.args.from c.args.to))
    (c.move_index-2.ensures ∙ ap (λ rs. move_index rs c.args.from c.args.to) c.self.invariant.rows
    ∙ sym (map-move (λ e. row_of (zone_at m) p.positions e.0 (draw p.lottery e.0) e.1) m.students c.args.from c.args.to)) refl

pub invariant_of-self : goal.invariant_of-self
invariant_of-self c = (moved c).0

pub returns : goal.returns
returns c = (moved c).1 ∙ ap (λ (m : Market). with_moved_student m c.args.from c.args.to) c.self.view_is
