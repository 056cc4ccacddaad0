use Rattle.std.proofs.Common.{◌+◌, ap, ◌∙◌, arith}
use Rattle.sc_stamps.specs.Verdict.{StampedPapers}
use Rattle.sc_repair.specs.Turns.{stamped_in_turn}
use Rattle.sc_repair.proofs.InOrder.{ordering-at, ordering-done, ordering-next, ordering-passed, ordering-within}
use Rattle.sc_repair.proofs.entry_order.put_in_order.Goals as goal
use Rattle.sc_repair.proofs.entry_order.put_in_order.Goals.{in-Some, in_default}

pub swap_students-requires-clause-a : goal.swap_students-requires-clause-a
swap_students-requires-clause-a c =
    let (later, within) = ordering-within _ c.loop-turn.turn c.loop-turn.place _ c.in-Some.position c.loop-turn.turns c.loop-turn.papers c.loop-turn.stamps c.loop-turn.invariant c.in-Some.ensures in
    omega (arith, later, within)

pub swap_students-requires-clause-b : goal.swap_students-requires-clause-b
swap_students-requires-clause-b c = (ordering-within _ c.loop-turn.turn c.loop-turn.place _ c.in-Some.position c.loop-turn.turns c.loop-turn.papers c.loop-turn.stamps c.loop-turn.invariant c.in-Some.ensures).1

pub loop-turn-preserved : goal.loop-turn-preserved
loop-turn-preserved c =
    let whole : StampedPapers = stamped_in_turn c.args.turns.now.positions c.args.papers.now c.args.stamps.now in
    elim c.match-position.branch [
      | in-Some w ↦
          let next = ordering-next whole c.loop-turn.turn c.loop-turn.place c.len-turn-end.result w.in-Some.position c.loop-turn.turns c.loop-turn.papers c.loop-turn.stamps c.loop-turn.invariant w.in-Some.ensures in
          ordering-at whole (c.loop-turn.turn + 1) (c.loop-turn.place + 1) c.match-position.place c.len-turn-end.result _ c.match-position.turns _ c.match-position.papers _ c.match-position.stamps next
          w.place-is (w.turns-is ∙ w.swap_students.ensures.turns) (w.papers-is ∙ w.swap_students.ensures.papers) (w.stamps-is ∙ w.swap_students.ensures.stamps)
      | in_default w ↦
          let passed = ordering-passed whole c.loop-turn.turn c.loop-turn.place c.len-turn-end.result c.loop-turn.turns c.loop-turn.papers c.loop-turn.stamps c.loop-turn.invariant w.in_default.ensures in
          ordering-at whole (c.loop-turn.turn + 1) c.loop-turn.place c.match-position.place c.len-turn-end.result _ c.match-position.turns _ c.match-position.papers _ c.match-position.stamps passed
          w.place-is w.turns-is w.papers-is w.stamps-is
    ]

pub returns-clause-papers : goal.returns-clause-papers
returns-clause-papers c = ap (λ (p : StampedPapers). p.papers) (ordering-done _ c.loop-turn.turn c.loop-turn.place _ c.loop-turn.turns c.loop-turn.papers c.loop-turn.stamps c.loop-turn.invariant c.loop-turn-test.false)

pub returns-clause-stamps : goal.returns-clause-stamps
returns-clause-stamps c = ap (λ (p : StampedPapers). p.stamps) (ordering-done _ c.loop-turn.turn c.loop-turn.place _ c.loop-turn.turns c.loop-turn.papers c.loop-turn.stamps c.loop-turn.invariant c.loop-turn-test.false)
