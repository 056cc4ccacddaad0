use Rattle.sc_ledgers.proofs.Kept.{AreLedgersTo}
use Rattle.sc_ledgers.proofs.opened.ledgers_of.Given as goal

abbrev pub invariant-loop-position : goal.invariant-loop-position
invariant-loop-position l = AreLedgersTo l.position l.fn.lists.items l.lists.items l.ledgers.items
