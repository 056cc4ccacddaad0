use Rattle.sc_papers.proofs.Priority.{cmp-less, cmp-equal, cmp-greater}
use Rattle.sc_papers.proofs.laws.comparison_says_who_is_ahead.Goals as goal

pub returns-clause-ahead : goal.returns-clause-ahead
returns-clause-ahead c = cmp-less

pub returns-clause-equal : goal.returns-clause-equal
returns-clause-equal c = cmp-equal

pub returns-clause-behind : goal.returns-clause-behind
returns-clause-behind c = cmp-greater
