use Rattle.std.proofs.Common.{arith}
use Rattle.sc_seats.specs.Held.{keys_of}
use Rattle.sc_seats.proofs.Heaps.{length-in_order}
use Rattle.sc_seats.proofs.heap.HeapRollRoll.len.Goals as goal

pub returns-clause-length : goal.returns-clause-length
returns-clause-length c =
    rw (← c.self.view_is) (omega (arith, length-in_order (keys_of c.self.inside.held), c.len.ensures))
