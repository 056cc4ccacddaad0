use Rattle.sc_repair.proofs.EntryTurns.{swapped-self}
use Rattle.sc_repair.proofs.entry_order.swap_students.Goals as goal

pub returns-else-a-b-clause-turns : goal.returns-else-a-b-clause-turns
returns-else-a-b-clause-turns c = swapped-self c.args.turns.now c.args.a c.args.b c.if-a-b.false
