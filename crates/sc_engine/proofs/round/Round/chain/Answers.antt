use Rattle.std.proofs.Common.{ℕ, Option, subst, sym, arith}
use Rattle.std.specs.Option.{option_map}
use Rattle.sc_papers.specs.Market.{student_at}
use Rattle.sc_papers.proofs.Hands.{position-low, student-there}
use Rattle.sc_engine.specs.Round.{view_of}
use Rattle.sc_engine.specs.RoundView.{only, Moves, Proposes}
use Rattle.sc_engine.specs.declared.round.chains.PutOut.{PutOut}
use Rattle.sc_engine.proofs.Proposals.{back-only, only-away, only-other}
use Rattle.sc_engine.proofs.Steps.{moves-after}
use Rattle.sc_engine.proofs.round.Round.chain.Goals as goal

pub loop-out-preserved : goal.loop-out-preserved
loop-out-preserved g c =
    let papers = c.args.papers.now in
    let old = view_of g.R.Roll.keys g.R.Roll.seats c.loop-out.self in
    let mid = view_of g.R.Roll.keys g.R.Roll.seats c.propose.new.self in
    let new = view_of g.R.Roll.keys g.R.Roll.seats c.note.new.self in
    let proposer : ℕ = student_at papers c.loop-out.proposer in
    let out : ℕ = c.in-Some.out.entry.student in
    let proposed = subst (λ (o : Option PutOut). Proposes papers old (only proposer) mid proposer (option_map (λ one. one.entry) o)) c.in-Some.is (c.in_ok-out.ensures (only proposer) (only-away c.loop-out.invariant.1.fits)) in
    let goes : Moves papers old (only proposer) mid (only out) = subst (Moves papers old (only proposer) mid) (only-other proposer out) proposed.moves in
    let noted = c.in_ok-proposer.ensures.noted (only out) (only-away goes.fits) in (
      position-low papers out c.in_ok-proposer.proposer c.in_ok-proposer.ensures.found,
      subst (λ i. Moves papers (view_of g.R.Roll.keys g.R.Roll.seats c.args.self.now) (only (student_at papers c.args.first)) new (only i)) (sym (student-there papers out c.in_ok-proposer.proposer c.in_ok-proposer.ensures.found))
          (moves-after c.loop-out.invariant.1 (moves-after goes noted.moves)),
    )

pub loop-out-smaller : goal.loop-out-smaller
loop-out-smaller g c = omega (arith, c.in_ok-proposer.ensures.left, (c.in_ok-out.ensures _ (only-away c.loop-out.invariant.1.fits)).moves.left)

pub returns : goal.returns
returns g c =
    let papers = c.args.papers.now in
    let old = view_of g.R.Roll.keys g.R.Roll.seats c.loop-out.self in
    let new = view_of g.R.Roll.keys g.R.Roll.seats c.propose.new.self in
    let proposer : ℕ = student_at papers c.loop-out.proposer in
    moves-after c.loop-out.invariant.1
    (subst (Moves papers old (only proposer) new) (back-only proposer)
    (subst (λ (o : Option PutOut). Proposes papers old (only proposer) new proposer (option_map (λ one. one.entry) o)) c.in_default.is (c.in_ok-out.ensures (only proposer) (only-away c.loop-out.invariant.1.fits))).moves)
