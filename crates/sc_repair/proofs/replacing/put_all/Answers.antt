use Rattle.std.proofs.Common.{◌++◌, ap, ◌∙◌, append_assoc}
use Rattle.sc_papers.specs.Assignment.{assigned}
use Rattle.sc_repair.proofs.Replaced.{given-next}
use Rattle.sc_repair.proofs.replacing.put_all.Goals as goal

pub loop-stance-preserved : goal.loop-stance-preserved
loop-stance-preserved c =
    let old = c.args.places.now in
    let (before, first) = c.loop-stance.invariant.0 in
    let (more, last) = c.put_one.ensures.grown in (
      (before ++ more, last ∙ ap (λ pairs. pairs ++ more) first ∙ append_assoc old before more),
      given-next c.args.stances.now c.loop-stance.stance-index c.stance-item.result (assigned old) (assigned c.loop-stance.places) (assigned c.put_one.new.places)
          c.requires.apart c.loop-stance-test.true c.stance-item.is c.loop-stance.invariant.1 c.in_ok-put_one.ensures.given,
    )
