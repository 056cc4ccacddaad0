use Rattle.std.proofs.Common.{ap, ◌∙◌, get_or, take_all}
use Rattle.std.specs.Prelude.{filter}
use Rattle.std.proofs.lemmas.List.Elements.{Contains-get_or}
use Rattle.sc_papers.specs.Market.{student_at}
use Rattle.sc_region.specs.Groups.{is_member, positions_in}
use Rattle.sc_region.proofs.candidates.positions_in.Goals as goal

pub is_member-requires-clause-within : goal.is_member-requires-clause-within
is_member-requires-clause-within c =
    let at = c.loop-position.position-index in
    c.requires.within (get_or c.args.candidates.now at 0) (Contains-get_or c.args.candidates.now at 0 c.loop-position-test.true)

pub returns : goal.returns
unfolding positions_in
returns c =
    c.loop-position.invariant
    ∙ ap (filter (λ p. is_member c.args.papers.now c.args.groups.now c.args.group (student_at c.args.papers.now p))) (take_all c.loop-position.position-index c.args.candidates.now c.loop-position-test.false)
