use Rattle.sc_papers.specs.Assignment.{assigned}
use Rattle.sc_repair.proofs.Replaced.{replaced-next}
use Rattle.sc_repair.proofs.replacing.move_all.Goals as goal

pub loop-stance-preserved : goal.loop-stance-preserved
loop-stance-preserved c =
    replaced-next c.args.stances.now c.loop-stance.stance-index c.stance-item.result (assigned c.args.places.now) (assigned c.loop-stance.places) (assigned c.move_near.new.self)
    c.requires.apart c.loop-stance-test.true c.stance-item.is c.loop-stance.invariant c.move_near.ensures.moved
