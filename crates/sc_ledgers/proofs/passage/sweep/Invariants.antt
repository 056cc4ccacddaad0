use Rattle.std.proofs.Common.{◌≡◌, ◌⊎◌, ℕ, Bool, [], Contains, drop, length}
use Rattle.sc_checkpoint.specs.Chains.{logs_in, students_in}
use Rattle.sc_ledgers.specs.Cohort.{Cohort}
use Rattle.sc_ledgers.specs.Renewed.{AreTheirs, IsUnderWay}
use Rattle.sc_ledgers.proofs.passage.sweep.Given as goal

abbrev pub invariant-loop-position : goal.invariant-loop-position
invariant-loop-position l =
    (length l.ledgers.schools.items ≡ length l.rows.papers.now.schools)
    × (l.chain.items ≡ [])
    × (length l.marks.flags ≡ length l.rows.papers.now.schools)
    × ((p : ℕ) → Contains l.renewal.positions p → Contains l.fn.renewal.positions p ⊎ Contains l.positions p)
    × ((m : Cohort) (reseated test inner : ℕ → Bool) → IsUnderWay m l.rows reseated test inner (logs_in l.segments) l.fn.renewal l.fn.ledgers l.fn.stances l.fn.marks l.positions
    → IsUnderWay m l.rows reseated test inner (logs_in l.segments) l.renewal l.ledgers l.stances l.marks (drop l.position-index l.positions))
    × (AreTheirs (students_in l.segments) l.fn.renewal → AreTheirs (students_in l.segments) l.renewal)
