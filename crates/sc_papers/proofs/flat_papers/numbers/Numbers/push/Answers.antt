use Rattle.sc_papers.proofs.Rising.{IsDistinct-rise}
use Rattle.sc_papers.proofs.flat_papers.numbers.Numbers.push.Goals as goal

pub from_list-requires : goal.from_list-requires
from_list-requires c =
    IsDistinct-rise c.in-Listed.numbers.items (rw c.in-Listed.is at (c.self.invariant c.if-self.true))

pub invariant_of-self-in_err-push-in-Listed : goal.invariant_of-self-in_err-push-in-Listed
invariant_of-self-in_err-push-in-Listed c = rw c.in-Listed.is at c.self.invariant
