use Rattle.std.proofs.Common.{◌≤◌, length, All}
use Rattle.std.specs.Prelude.{Contains}
use Rattle.sc_rows.proofs.rolls.agree.Given as goal

abbrev pub invariant-loop-offer : goal.invariant-loop-offer
invariant-loop-offer g l = record {
  sorted_within : length l.sorted.keys ≤ l.sorted.seats;
  heap_within : length l.heap.keys ≤ l.heap.seats;
  sorted_known : All (λ held. Contains l.in_sorted.items held.student) l.sorted.keys;
  heap_known : All (λ held. Contains l.in_heap.items held.student) l.heap.keys;
}
