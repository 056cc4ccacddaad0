use Rattle.std.proofs.Common.{ap, ◌∙◌, ◌==◌, length, position}
use Rattle.std.specs.Option.{unwrap_or}
use Rattle.sc_papers.specs.Market.{choices_of, student_at}
use Rattle.sc_papers.proofs.Hands.{hand-is}
use Rattle.sc_reasons.proofs.ReasonLemmas.{held-none, held-some, listed-long}
use Rattle.sc_reasons.proofs.reason.held_rank.Goals as goal

pub returns-in-Some : goal.returns-in-Some
returns-in-Some c a holds =
    let m = c.args.papers.now in
    let i = c.args.entrant.student in
    let is = hand-is m c.args.entrant.position i c.requires in
    let count = listed-long m c.classed_choices_at-count.result.now (choices_of m (student_at m c.args.entrant.position)) c.classed_choices_at-count.ensures.positions in
    c.unwrap_or.ensures ∙ (λ t. unwrap_or (c.choice_rank_at.ensures t) (count t))
    ∙ ap (λ j. unwrap_or (position (λ s. s == c.in-Some.school) (choices_of m j)) (length (choices_of m j))) is
    ∙ held-some a i c.in-Some.school (choices_of m i) (holds ∙ c.in-Some.is)

pub returns-in-None : goal.returns-in-None
returns-in-None c a holds =
    let m = c.args.papers.now in
    let i = c.args.entrant.student in
    listed-long m c.classed_choices_at-count.result.now (choices_of m (student_at m c.args.entrant.position)) c.classed_choices_at-count.ensures.positions
    ∙ ap (λ j. length (choices_of m j)) (hand-is m c.args.entrant.position i c.requires) ∙ held-none a i (choices_of m i) (holds ∙ c.in-None.is)
