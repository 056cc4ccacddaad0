use Rattle.std.proofs.Common.{length, subst, sym, arith}
use Rattle.sc_papers.specs.Ordered.{IsOrder}
use Rattle.sc_papers.proofs.Slots.{AreSlots-first}
use Rattle.sc_papers.proofs.ordered.Ordered.new.Goals.{in-ByOrder, in-ByTable}
use Rattle.sc_papers.proofs.ordered.Ordered.new.Goals as goal

pub invariant_of-result : goal.invariant_of-result
invariant_of-result g c = elim c.match-finding.branch [
  | in-ByOrder w ↦ subst (λ order. IsOrder order (length c.new.result.items)) (sym w.result-is) tt
  | in-ByTable w ↦
      subst (λ order. IsOrder order (length c.new.result.items)) (sym w.result-is)
      (rw (w.new-in-ByTable.ensures.items, c.new.ensures.items) (AreSlots-first 0, omega arith))
]
