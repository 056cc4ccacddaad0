use Rattle.std.proofs.Common.{ap, ◌∙◌, ◌+◌, slice_get}
use Rattle.std.specs.Option.{option_and_then}
use Rattle.sc_papers.specs.Market.{choices_of}
use Rattle.sc_ledgers.specs.Proposals.{choice_after}
use Rattle.sc_ledgers.proofs.following.next_listed.Goals as goal

pub returns : goal.returns
unfolding choice_after
returns c rank at = c.choice_after.ensures ∙ ap (option_and_then (λ r. slice_get (choices_of c.args.papers.now c.args.entry.now.student) (r + 1))) at
