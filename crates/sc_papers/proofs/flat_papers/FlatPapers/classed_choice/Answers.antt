use Rattle.std.proofs.Common.{ap, slice_get, sym, ◌∙◌}
use Rattle.sc_papers.specs.Market.{Market}
use Rattle.sc_papers.specs.Representation.{market_of}
use Rattle.sc_papers.specs.StudentRow.{classed_at}
use Rattle.sc_papers.proofs.Keys.{classed-made}
use Rattle.sc_papers.proofs.flat_papers.FlatPapers.classed_choice.Goals as goal

pub returns : goal.returns
returns c =
    c.new.ensures
    ∙ classed-made (market_of c.self.inside) c.args.student.now c.args.position c.in-Some.name.now c.class_in.result c.in-Some.school.now
    (sym (ap (slice_get c.self.inside.schools.entries) c.from.ensures) ∙ sym c.in-Some.ensures.entry) c.in-Some.ensures.value
    c.class_in.ensures
    ∙ ap (λ (m : Market). classed_at m c.args.student.now c.args.position) c.self.view_is
