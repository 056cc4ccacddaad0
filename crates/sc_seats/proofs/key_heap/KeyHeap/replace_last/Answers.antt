use Rattle.std.specs.BinaryHeap.{heap_items}
use Rattle.sc_seats.proofs.Heaps.{some-replaced}
use Rattle.sc_seats.proofs.key_heap.KeyHeap.replace_last.Goals as goal

pub last_of-self-inside-requires-clause-some : goal.last_of-self-inside-requires-clause-some
last_of-self-inside-requires-clause-some c =
    some-replaced (heap_items c.self.inside.keys) (heap_items c.replace_last-out.new.keys) c.args.key c.replace_last-out.result c.self.inside.last c.self.invariant.1 c.replace_last-out.ensures.together
