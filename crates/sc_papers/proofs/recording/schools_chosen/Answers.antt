use Rattle.std.proofs.Common.{ap, ◌∙◌}
use Rattle.sc_papers.specs.Market.{schools_of}
use Rattle.sc_papers.proofs.Recorded.{schools-chosen_more}
use Rattle.sc_papers.proofs.recording.schools_chosen.Goals as goal

pub loop-choice-preserved : goal.loop-choice-preserved
loop-choice-preserved c =
    c.in_ok-push.ensures.items
    ∙ schools-chosen_more (schools_of c.args.papers.now) c.args.choices.now c.loop-choice.choice-index c.position.result c.in-Some.school c.choice-item.result
    c.loop-choice.schools.items c.loop-choice-test.true (c.position.ensures ∙ ap (λ c'. c'.position) c.choice-item.is) c.in-Some.ensures c.loop-choice.invariant
