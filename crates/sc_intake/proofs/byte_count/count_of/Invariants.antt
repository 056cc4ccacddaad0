use Rattle.std.proofs.Common.{◌≡◌, ◌+◌, ◌==◌}
use Rattle.std.specs.List.{count_by}
use Rattle.std.specs.Slice.Iter.{chunks_rest, chunks_size}
use Rattle.sc_intake.proofs.byte_count.count_of.Given as goal

abbrev pub invariant-loop-run : goal.invariant-loop-run
invariant-loop-run l =
    (goal.iterator-loop-run).can_next l.run-iterator ×
    (goal.iterator-loop-run).is_finite l.run-iterator ×
    (chunks_size l.run-iterator ≡ 255) ×
    (l.count + count_by (λ c. c == l.byte) (chunks_rest l.run-iterator) ≡ count_by (λ c. c == l.byte) l.text)
