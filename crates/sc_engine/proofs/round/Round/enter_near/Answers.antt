use Rattle.std.proofs.Common.{◌≡◌, ℕ, false, subst, sym}
use Rattle.std.specs.Prelude.{OnOk}
use Rattle.sc_papers.proofs.Hands.{position-low, student-there}
use Rattle.sc_engine.specs.Round.{view_of}
use Rattle.sc_engine.specs.RoundView.{Enters, has_entered}
use Rattle.sc_engine.proofs.round.Round.enter_near.Goals as goal

pub enter_at-requires : goal.enter_at-requires
enter_at-requires g c = λ ready. record {
  fits = c.requires.fits ready;
  within = position-low c.args.papers.now c.args.student c.position_near-at.result c.position_near-at.ensures;
  absent = subst (λ (i : ℕ). has_entered c.args.papers.now (view_of g.R.Roll.keys g.R.Roll.seats c.args.self.now).ranks i ≡ false)
      (sym (student-there c.args.papers.now c.args.student c.position_near-at.result c.position_near-at.ensures)) (c.requires.absent ready);
}

pub returns-clause-enters : goal.returns-clause-enters
returns-clause-enters g c =
    subst (λ (i : ℕ). OnOk c.enter_at.result (Enters c.args.papers.now (view_of g.R.Roll.keys g.R.Roll.seats c.args.self.now) (view_of g.R.Roll.keys g.R.Roll.seats c.enter_at.new.self) i))
    (student-there c.args.papers.now c.args.student c.position_near-at.result c.position_near-at.ensures) c.enter_at.ensures.enters
