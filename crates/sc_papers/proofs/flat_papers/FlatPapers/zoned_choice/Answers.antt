use Rattle.std.proofs.Common.{ap, refl, slice_get, sym, ◌∙◌}
use Rattle.sc_papers.specs.Market.{Market}
use Rattle.sc_papers.specs.Representation.{market_of}
use Rattle.sc_papers.specs.StudentRow.{classed_at}
use Rattle.sc_papers.proofs.Keys.{classed-made, zoned-class}
use Rattle.sc_papers.proofs.flat_papers.FlatPapers.zoned_choice.Goals as goal

pub returns : goal.returns
returns c =
    c.moved_ahead.ensures
    ∙ rw (c.new.ensures, c.eq.ensures) refl
    ∙ classed-made (market_of c.self.inside) c.args.student.now c.args.position c.in-Some.field-0-0.now _ c.in-Some.school.now
    (sym (ap (slice_get c.self.inside.schools.entries) c.from.ensures) ∙ sym c.in-Some.ensures.entry) c.in-Some.ensures.value
    (zoned-class c.args.student.now c.in-Some.field-0-0.now c.in-Some.school.now c.requires.zoned)
    ∙ ap (λ (m : Market). classed_at m c.args.student.now c.args.position) c.self.view_is
