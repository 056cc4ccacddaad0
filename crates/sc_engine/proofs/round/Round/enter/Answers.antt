use Rattle.std.proofs.Common.{ℕ, List, Option, subst, sym}
use Rattle.sc_papers.specs.Market.{student_at}
use Rattle.sc_papers.proofs.Hands.{hand-position}
use Rattle.sc_engine.specs.Round.{view_of}
use Rattle.sc_engine.specs.RoundView.{FitsBut, Moves, nobody, only}
use Rattle.sc_engine.proofs.Beginning.{begins, fits-begun, enters}
use Rattle.sc_engine.proofs.round.Round.enter.Goals as goal

pub chain-requires-clause-fits : goal.chain-requires-clause-fits
chain-requires-clause-fits g c =
    let papers = c.args.papers.now in
    let old = view_of g.R.Roll.keys g.R.Roll.seats c.args.self.now in
    subst (λ (ranks : List (Option ℕ)). FitsBut papers (record old { ranks = ranks }) (only (student_at papers c.args.at))) (sym c.put.ensures)
    (fits-begun (begins papers old c.make_room.new.self _ c.args.at 0 c.requires.fits (hand-position papers c.requires.fits.well_formed c.args.at c.requires.within) c.requires.absent c.in_ok-make_room.ensures.room c.in_ok-make_room.ensures.same c.in_ok-make_room.ensures.within))

pub returns : goal.returns
returns g c =
    let papers = c.args.papers.now in
    let old = view_of g.R.Roll.keys g.R.Roll.seats c.args.self.now in
    enters (begins papers old c.make_room.new.self _ c.args.at 0 c.requires.fits (hand-position papers c.requires.fits.well_formed c.args.at c.requires.within) c.requires.absent c.in_ok-make_room.ensures.room c.in_ok-make_room.ensures.same c.in_ok-make_room.ensures.within)
    (subst (λ (ranks : List (Option ℕ)). Moves papers (record old { ranks = ranks }) (only (student_at papers c.args.at)) (view_of g.R.Roll.keys g.R.Roll.seats c.chain.new.self) nobody) c.put.ensures c.in_ok-chain.ensures)
