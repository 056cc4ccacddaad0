use Rattle.std.proofs.Common.{◌≡◌, ◌∙◌, rules}
use Rattle.sc_seats.specs.Held.{keys_of}
use Rattle.sc_seats.proofs.Heaps.{worst-in_order}
use Rattle.sc_seats.proofs.heap.HeapRollRoll.worst.Goals as goal

pub returns : goal.returns
returns c =
    let same : c.map.result ≡ c.last.result = search (rules, c.map.ensures.cases) in
    rw (← c.self.view_is) (same ∙ worst-in_order (keys_of c.self.inside.held) c.last.result c.self.invariant.ascending c.last.ensures.held c.last.ensures.behind c.last.ensures.none)
