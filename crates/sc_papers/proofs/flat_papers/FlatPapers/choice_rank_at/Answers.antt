use Rattle.std.proofs.Common.{map, sym, ◌∙◌}
use Rattle.sc_papers.specs.Market.{choices_of, student_at}
use Rattle.sc_papers.proofs.ChoicePositions.{choice-rank, no-rank, rank-placed}
use Rattle.sc_papers.proofs.flat_papers.FlatPapers.choice_rank_at.Goals as goal

pub returns-in_err-school_position : goal.returns-in_err-school_position
returns-in_err-school_position c =
    let m = c.args.self.now in
    c.from_residual.ensures
    ∙ sym (no-rank m (choices_of m (student_at m c.args.student)) (map (λ c'. c'.position) c.classed_choices_at-choices.result.now) c.args.school
    c.classed_choices_at-choices.ensures.positions (sym c.school_position.ensures ∙ c.in_err-school_position.was))

pub returns : goal.returns
returns c =
    let m = c.args.self.now in
    let choices = c.classed_choices_at-choices.result.now in
    c.rank_of.ensures ∙ rank-placed choices c.in_ok-school_position.field-0
    ∙ choice-rank m (choices_of m (student_at m c.args.student)) (map (λ c'. c'.position) choices) c.args.school c.in_ok-school_position.field-0
    c.classed_choices_at-choices.ensures.positions (sym c.school_position.ensures ∙ c.in_ok-school_position.was)
