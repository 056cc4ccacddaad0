use Rattle.std.proofs.Common.{ℕ, Option, map, slice_get, sym, ap, ◌∙◌}
use Rattle.std.specs.Option.{option_and_then}
use Rattle.sc_papers.specs.Market.{choices_of, schools_of, student_at}
use Rattle.sc_papers.proofs.ChoicePositions.{choice-there, place-read}
use Rattle.sc_papers.proofs.flat_papers.FlatPapers.choice_at.Goals as goal

pub returns : goal.returns
returns c =
    let m = c.args.self.now in
    let choices = c.classed_choices_at.result.now in
    let read = c.in_ok-choice.ensures.lookup in
    let here = place-read choices c.args.rank c.position.result c.in_ok-choice.choice.now read.0 read.1 c.position.ensures in
    c.school_at.ensures ∙ sym (ap (λ (o : Option ℕ). option_and_then (slice_get (schools_of m)) o) here)
    ∙ choice-there m (choices_of m (student_at m c.args.student)) (map (λ c'. c'.position) choices) c.args.rank c.classed_choices_at.ensures.positions
