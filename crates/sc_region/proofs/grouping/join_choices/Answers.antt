use Rattle.std.proofs.Common.{◌≡◌, ◌<◌, refl, sym, ◌∙◌, length, get_or, arith}
use Rattle.std.proofs.lemmas.List.Sums.{fold_more}
use Rattle.sc_papers.specs.Market.{choices_of, student_at}
use Rattle.sc_region.specs.Groups.{first_choice, joined, joined_list, position_of}
use Rattle.sc_region.proofs.Joining.{choice-within, choice-told, choices-count}
use Rattle.sc_region.proofs.grouping.join_choices.Goals as goal

pub loop-choice-init : goal.loop-choice-init
unfolding joined_list
loop-choice-init c = (refl, c.requires.one_each)

pub join-requires-clause-second : goal.join-requires-clause-second
join-requires-clause-second c =
    let m = c.args.papers.now in
    let listed = c.classed_choices_at-choice-items.result.now in
    omega (
      arith,
      c.position.ensures,
      c.loop-choice.invariant.1,
      choice-within m listed (choices_of m (student_at m c.args.position)) c.classed_choices_at-choice-items.ensures.positions c.loop-choice.choice-index c.choice-item.result
          c.loop-choice-test.true c.choice-item.is,
    )

pub loop-choice-preserved : goal.loop-choice-preserved
unfolding joined_list
loop-choice-preserved c =
    let m = c.args.papers.now in
    let i = student_at m c.args.position in
    let choices = choices_of m i in
    let listed = c.classed_choices_at-choice-items.result.now in
    let at = c.loop-choice.choice-index in
    let told = c.classed_choices_at-choice-items.ensures.positions in
    let there : c.position.result ≡ position_of m (get_or choices at 0) =
    c.position.ensures ∙ choice-told m listed choices told at 0 c.choice-item.result c.loop-choice-test.true c.choice-item.is in
    let low : at < length choices = omega (arith, c.loop-choice-test.true, choices-count m listed choices told) in (
      c.join.ensures.joined ∙ (λ t. joined (c.loop-choice.invariant.0 t) (c.first_position_at-first.ensures.position t) (there t))
          ∙ sym (fold_more (λ g s. joined g (position_of m (first_choice m i)) (position_of m s)) c.args.groups.now choices at 0 low),
      c.join.ensures.one_each ∙ c.loop-choice.invariant.1,
    )
