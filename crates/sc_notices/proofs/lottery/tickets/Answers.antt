use Rattle.std.proofs.Common.{◌∙◌, ap, arith, map}
use Rattle.std.proofs.lemmas.List.{take_all}
use Rattle.std.proofs.lemmas.Map.Entries.{length-keys_of}
use Rattle.sc_papers.specs.Market.{students_of}
use Rattle.sc_seats.specs.Roll.{in_order}
use Rattle.sc_notices.specs.Lottery.{ticket_of}
use Rattle.sc_notices.proofs.OrderedLemmas.{sorted-in_order}
use Rattle.sc_notices.proofs.lottery.tickets.Goals as goal

pub returns : goal.returns
returns c =
    let m = c.args.papers.now in
    sorted-in_order c.loop-position.tickets.items c.sort_unstable.new.self.items c.sort_unstable.ensures.permutation c.sort_unstable.ensures.sorted
    ∙ ap in_order (c.loop-position.invariant
    ∙ ap (map (ticket_of m)) (take_all c.loop-position.position (students_of m) (omega (arith, c.loop-position-test.false, c.students_len-position-end.ensures.count, length-keys_of m.students))))
