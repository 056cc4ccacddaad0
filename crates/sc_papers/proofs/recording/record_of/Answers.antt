use Rattle.std.proofs.Common.{length, map, ◌∙◌}
use Rattle.sc_papers.specs.Market.{choices_of, student_at}
use Rattle.sc_papers.proofs.Placed.{places-back, places-low}
use Rattle.sc_papers.proofs.Recorded.{chosen-low, made-record}
use Rattle.sc_papers.proofs.recording.record_of.Goals as goal

pub schools_chosen-requires : goal.schools_chosen-requires
schools_chosen-requires c =
    let m = c.args.papers.now in
    let choices = c.classed_choices_at.result.now in
    chosen-low (length m.schools) choices
    (places-low m (choices_of m (student_at m c.args.position)) (map (λ c'. c'.position) choices) c.classed_choices_at.ensures.positions)

pub returns : goal.returns
returns c =
    let m = c.args.papers.now in
    made-record m c.args.position c.zone.result c.continuing.result c.in_ok-siblings.siblings c.in_ok-choices.choices c.requires.within (c.zone.ensures ∙ c.requires.zone) (c.continuing.ensures ∙ c.requires.continuing)
    c.in_ok-siblings.ensures
    (c.in_ok-choices.ensures
    ∙ places-back m (choices_of m (student_at m c.args.position)) (map (λ c'. c'.position) c.classed_choices_at.result.now) c.classed_choices_at.ensures.positions)
