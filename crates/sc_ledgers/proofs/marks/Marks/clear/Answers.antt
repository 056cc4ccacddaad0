use Rattle.std.proofs.Common.{◌∙◌, subst, false, length-set}
use Rattle.sc_ledgers.specs.Marks.{CoverFlags}
use Rattle.sc_ledgers.proofs.Flagging.{cover-pop}
use Rattle.sc_ledgers.proofs.marks.Marks.clear.Goals as goal

pub loop-place-preserved : goal.loop-place-preserved
loop-place-preserved c =
    let before = c.loop-place.invariant in
    let now = c.loop-place.self-inside in
    record {
      cover = cover-pop now.always c.pop.new.self.items c.in-Some.place now.flags.items (subst (λ places. CoverFlags now.always places now.flags.items) c.in-Some.ensures.items before.cover);
      always = before.always;
      one_each = length-set now.flags.items c.in-Some.place false ∙ before.one_each;
    }
