use Rattle.std.proofs.Common.{ap, subst, sym, ◌∙◌, ℕ, List, [], replicate, Option, Some}
use Rattle.sc_engine.specs.Applicants.{numbers_of}
use Rattle.sc_engine.specs.Round.{view_of}
use Rattle.sc_engine.specs.RoundView.{RoundView}
use Rattle.sc_engine.specs.Together.{Waits}
use Rattle.sc_engine.proofs.Everybody.{waits_first}
use Rattle.sc_engine.proofs.Together.{waits_done}
use Rattle.sc_engine.proofs.round.Round.enter_everybody.Goals as goal

pub settle_together-requires-clause-wait : goal.settle_together-requires-clause-wait
settle_together-requires-clause-wait g c =
    let papers = c.args.papers.now in
    let first : Option ℕ = Some 0 in
    let old : RoundView = view_of g.R.Roll.keys g.R.Roll.seats c.args.self.now in
    subst (λ (ranks : List (Option ℕ)). Waits papers (record old { ranks = ranks }) (numbers_of papers c.args.applicants.now) []) (sym (c.in_ok-put_everybody.ensures ∙ ap (λ n. replicate n first) c.students_len.ensures.count))
    (waits_first papers old c.args.applicants.now c.requires.fresh.fits c.requires.fresh.nobody c.requires.fresh.log c.requires.fresh.proposals c.requires.everybody)

pub returns : goal.returns
returns g c = waits_done c.args.papers.now (view_of g.R.Roll.keys g.R.Roll.seats c.settle_together.new.self) c.in_ok-settle_together.ensures
