use Rattle.std.proofs.Common.{arith, refl}
use Rattle.sc_papers.proofs.Repeats.{first_repeat-at}
use Rattle.sc_papers.proofs.check.find_repeat.Goals as goal

pub returns-then-contains : goal.returns-then-contains
returns-then-contains c =
    rw (
      c.loop-place.invariant,
      first_repeat-at c.args.list.now c.loop-place.place c.index-list-place.result (omega arith) c.index-list-place.is,
      ← c.contains.ensures.value,
      c.if-contains.true,
    ) refl

pub loop-place-preserved : goal.loop-place-preserved
loop-place-preserved c =
    rw (
      c.loop-place.invariant,
      first_repeat-at c.args.list.now c.loop-place.place c.index-list-place.result (omega arith) c.index-list-place.is,
      ← c.contains.ensures.value,
      c.if-contains.false,
    ) refl
