use Rattle.std.proofs.Common.{subst, sym}
use Rattle.sc_papers.specs.Market.{Market}
use Rattle.sc_stamps.specs.Stamps.{IsInStep, Stamps}
use Rattle.sc_repair.specs.Turns.{papers_in_turn}
use Rattle.sc_repair.proofs.AmendedInTurn.{step-in_turn}
use Rattle.sc_repair.proofs.unsettled.Unsettled.settle.Goals as goal

pub resume-requires : goal.resume-requires
resume-requires c =
    let t = c.self.inside.turns in
    let m = c.self.inside.papers in
    let stamps = c.self.inside.stamps in
    record {
      in_step =
          subst (λ (p : Market). IsInStep p c.put_in_order.new.stamps) (sym c.put_in_order.ensures.papers)
          (subst (λ (s : Stamps). IsInStep (papers_in_turn t.positions m) s) (sym c.put_in_order.ensures.stamps) (step-in_turn t m stamps c.self.invariant));
    }
