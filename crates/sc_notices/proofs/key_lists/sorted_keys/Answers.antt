use Rattle.std.proofs.Common.{◌∙◌, ap}
use Rattle.sc_seats.specs.Roll.{in_order}
use Rattle.sc_notices.proofs.OrderedLemmas.{sorted-in_order}
use Rattle.sc_notices.proofs.key_lists.sorted_keys.Goals as goal

pub returns : goal.returns
returns c =
    sorted-in_order c.in_ok-ordered.ordered.items c.sort_unstable.new.self.items c.sort_unstable.ensures.permutation c.sort_unstable.ensures.sorted
    ∙ ap in_order c.in_ok-ordered.ensures.items
