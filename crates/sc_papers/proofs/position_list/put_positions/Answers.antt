use Rattle.std.proofs.Common.{rules}
use Rattle.sc_papers.proofs.position_list.put_positions.Goals as goal

pub returns-clause-put : goal.returns-clause-put
returns-clause-put c = rw (← c.get_mut.follows.holds-at-none) (search rules)
