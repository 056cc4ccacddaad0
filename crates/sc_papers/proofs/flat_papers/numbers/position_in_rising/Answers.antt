use Rattle.std.proofs.Common.{sym, ◌∙◌}
use Rattle.sc_papers.proofs.Rising.{position-past, position-searched}
use Rattle.sc_papers.proofs.flat_papers.numbers.position_in_rising.Goals as goal

pub returns-then-is_past : goal.returns-then-is_past
returns-then-is_past c =
    sym (position-past c.args.numbers.now c.args.number (rw c.if-is_past.true at c.is_past.ensures))

pub returns : goal.returns
returns c =
    c.ok.ensures.value ∙ position-searched c.args.numbers.now c.args.number c.binary_search.result c.binary_search.ensures.position c.requires
