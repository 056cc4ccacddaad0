use Rattle.std.proofs.Common.{◌≡◌, true, rules}
use Rattle.sc_papers.proofs.Rising.{IsDistinct-rise}
use Rattle.sc_papers.proofs.flat_papers.numbers.Numbers.make_table.Goals as goal

pub from_list-requires : goal.from_list-requires
from_list-requires c =
    let rises : c.self.inside.rising ≡ true = search rules in
    IsDistinct-rise c.in-Listed.numbers.items (rw c.in-Listed.is at (c.self.invariant rises))
