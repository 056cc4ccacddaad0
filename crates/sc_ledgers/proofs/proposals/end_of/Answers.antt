use Rattle.std.proofs.Common.{ap, ◌∙◌, slice_get}
use Rattle.std.specs.Option.{option_map_or}
use Rattle.sc_papers.specs.Market.{choices_of, student_at}
use Rattle.sc_ledgers.specs.Proposals.{choice_after, end_of}
use Rattle.sc_ledgers.proofs.proposals.end_of.Goals as goal

pub returns-in-Some : goal.returns-in-Some
unfolding end_of
returns-in-Some c = c.choice_after.ensures ∙ ap (λ last. option_map_or (choice_after c.args.papers.now) last (slice_get (choices_of c.args.papers.now (student_at c.args.papers.now c.args.position)) 0)) c.in-Some.ensures.value

pub returns-in-None : goal.returns-in-None
unfolding end_of
returns-in-None c = c.choice_at.ensures ∙ ap (λ last. option_map_or (choice_after c.args.papers.now) last (slice_get (choices_of c.args.papers.now (student_at c.args.papers.now c.args.position)) 0)) c.in-None.ensures.value
