use Rattle.std.proofs.Common.{◌∙◌, ◌≤◌, ap, length, subst, arith}
use Rattle.sc_papers.specs.declared.limits.TheConstants.{LONGEST_LIST}
use Rattle.sc_papers.specs.WellFormed.{WithinLimits}
use Rattle.sc_papers.proofs.Hands.{hand-choices, hand-recorded, record-short}
use Rattle.sc_papers.proofs.papers.Papers.choices_at.Goals as goal

pub unreachable-requires : goal.unreachable-requires
unreachable-requires c = hand-recorded c.args.self.now c.args.student c.requires c.in_default.ensures

pub returns-clause-choices : goal.returns-clause-choices
returns-clause-choices c = c.as_slice.ensures ∙ hand-choices c.args.self.now c.args.student c.in-Some.record.now c.requires c.in-Some.ensures

pub returns-clause-short : goal.returns-clause-short
returns-clause-short c =
    let short : length c.in-Some.record.now.choices ≤ LONGEST_LIST = record-short c.args.self.now (subst WithinLimits c.self.view_is c.students_len.ensures.within_limits) c.args.student c.in-Some.record.now c.in-Some.ensures in
    omega (arith, short, ap length c.as_slice.ensures)
