use Rattle.std.proofs.Common.{◌≡◌, ◌+◌, ◌∷◌, ap, arith, length}
use Rattle.sc_intake.proofs.JudgingSteps.{script-end, script-step, script-told}
use Rattle.sc_intake.proofs.script_faults.next_cause.Goals as goal

pub returns-in-Some-clause-next : goal.returns-in-Some-clause-next
returns-in-Some-clause-next c =
    script-told (c.records.row + 1) _ c.in_ok-cause.field-0 c.in-Some.cause c.records.records.left c.read.new.self.left c.read.new.self.current c.records.invariant.judged
    (rw c.if-branch.true at c.in_ok-read.ensures) c.in_ok-cause.ensures c.in-Some.is

pub records-preserved : goal.records-preserved
records-preserved c =
    let next : c.records.records.left ≡ c.read.new.self.current ∷ c.read.new.self.left = rw c.if-branch.true at c.in_ok-read.ensures in
    let size = ap length next in
    let counted = c.records.invariant.count in
    record {
      judged = script-step (c.records.row + 1) _ c.in_ok-cause.field-0 c.records.records.left c.read.new.self.left c.read.new.self.current c.records.invariant.judged next
          c.in_ok-cause.ensures c.in_default.is;
      count = omega arith;
    }

pub returns-clause-next : goal.returns-clause-next
returns-clause-next c = script-end (c.records.row + 1) _ c.records.records.left c.records.invariant.judged (rw c.if-branch.false at c.in_ok-read.ensures)
