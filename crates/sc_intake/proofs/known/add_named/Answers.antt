use Rattle.std.proofs.Common.{◌≡◌, ◌+◌, ◌∷◌, ap, arith, length}
use Rattle.sc_intake.proofs.JudgingSteps.{known-end, known-step}
use Rattle.sc_intake.proofs.known.add_named.Goals as goal

pub records-preserved : goal.records-preserved
records-preserved c =
    let next : c.records.records.left ≡ c.read.new.self.current ∷ c.read.new.self.left = rw c.if-branch.true at c.in_ok-read.ensures in
    let size = ap length next in
    let counted = c.records.invariant.count in
    record {
      known = known-step (c.records.row + 1) _ c.records.known.items c.add_named_school.new.known.items c.records.records.left c.read.new.self.left c.read.new.self.current
          c.records.invariant.known next c.in_ok-add_named_school.ensures.known;
      rows = c.in_ok-add_named_school.ensures.rows;
      seen = c.in_ok-add_named_school.ensures.seen;
      count = omega arith;
    }

pub returns-clause-known : goal.returns-clause-known
returns-clause-known c =
    known-end (c.records.row + 1) _ c.records.known.items c.records.records.left c.records.invariant.known (rw c.if-branch.false at c.in_ok-read.ensures)
