use Rattle.sc_repair.specs.Turns.{stamped_in_turn}
use Rattle.sc_repair.proofs.InOrder.{IsOrdering}
use Rattle.sc_repair.proofs.entry_order.put_in_order.Given as goal

abbrev pub invariant-loop-turn : goal.invariant-loop-turn
invariant-loop-turn l = IsOrdering (stamped_in_turn l.fn.turns.positions l.fn.papers l.fn.stamps) l.turn l.place l.turn-end l.turns l.papers l.stamps
