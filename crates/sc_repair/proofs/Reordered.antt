-- Students who stand in an order of their own are those in order of turn, up to their order.
use Rattle.std.proofs.Common.{◌≡◌, refl, subst, ℕ, zero, suc, ◌+◌, length, slice_get, swap, Option, Some, None, IsPermutation, arith}
use Rattle.std.proofs.lemmas.List.Sorted.{IsPermutation-refl, IsPermutation-swap, IsPermutation-trans}
use Rattle.sc_papers.specs.EntryOrder.{with_swapped_students}
use Rattle.sc_papers.specs.Market.{Market}
use Rattle.sc_papers.specs.Reordering.{IsReordering}
use Rattle.sc_stamps.specs.Stamps.{Stamps, with_swapped_stamps}
use Rattle.sc_stamps.specs.Verdict.{StampedPapers}
use Rattle.sc_repair.specs.Turns.{AreInTurn, TurnsOfEntry, papers_in_turn, stamped_in_turn, swapped}
use Rattle.sc_repair.proofs.EntryTurns.{turn-of}
use Rattle.sc_repair.proofs.InOrder.{IsOrdering, ordering-done, ordering-next, ordering-passed, ordering-within}

-- a turn changes one student at most for another, and the later turns do the rest
permutes-by : (found : Option ℕ) (whole : StampedPapers) (turn place end : ℕ) (t : TurnsOfEntry) (m : Market) (stamps : Stamps) → IsOrdering whole turn place end t m stamps → slice_get t.positions turn ≡ Some found
    → ((later : ℕ) (u : TurnsOfEntry) (n : Market) (others : Stamps) → IsOrdering whole (turn + 1) later end u n others → IsPermutation n.students whole.papers.students) → IsPermutation m.students whole.papers.students
permutes-by None whole turn place end t m stamps so here rest = rest place t m stamps (ordering-passed whole turn place end t m stamps so here)
permutes-by (Some p) whole turn place end t m stamps so here rest =
    let (later, within) = ordering-within whole turn place end p t m stamps so here in
    IsPermutation-trans m.students (swap m.students place p) whole.papers.students
    (IsPermutation-swap m.students (swap m.students place p) place p (omega (arith, later, within)) within refl)
    (rest (place + 1) (swapped place p t) (with_swapped_students m place p) (with_swapped_stamps stamps place p) (ordering-next whole turn place end p t m stamps so here))

permutes-from : (k : ℕ) (whole : StampedPapers) (turn place end : ℕ) (t : TurnsOfEntry) (m : Market) (stamps : Stamps) → IsOrdering whole turn place end t m stamps → turn + k ≡ end
    → IsPermutation m.students whole.papers.students
permutes-from zero whole turn place end t m stamps so is =
    subst (λ (p : StampedPapers). IsPermutation m.students p.papers.students) (ordering-done whole turn place end t m stamps so (omega (arith, is))) (IsPermutation-refl m.students)
permutes-from (suc k) whole turn place end t m stamps so is =
    let (found, here) = turn-of t.positions turn (omega (arith, is, so.count)) in
    permutes-by found whole turn place end t m stamps so here
    (λ later u n others on. permutes-from k whole (turn + 1) later end u n others on (omega (arith, is)))

pub reordered-in_turn : (t : TurnsOfEntry) (m : Market) (stamps : Stamps) → AreInTurn t m stamps → IsReordering m (papers_in_turn t.positions m)
reordered-in_turn t m stamps kept = record {
  seed = refl;
  schools = IsPermutation-refl m.schools;
  students = permutes-from (length t.positions) (stamped_in_turn t.positions m stamps) 0 0 (length t.positions) t m stamps
      (record { in_turn = kept; same = refl; order = refl; count = refl; few = omega arith }) (omega arith);
}
