use Rattle.std.proofs.Common.{◌≡◌, ◌+◌, List, ap, subst, sym, ◌∙◌, ◌&&◌}
use Rattle.sc_papers.specs.Market.{students_of}
use Rattle.sc_papers.proofs.Choices.{contains-at}
use Rattle.sc_papers.proofs.Positions.{among-student}
use Rattle.sc_checkpoint.specs.Chains.{logs_in, students_in, Chain}
use Rattle.sc_engine.specs.Round.{is_spent, view_of}
use Rattle.sc_engine.proofs.Settling.{first-apart}
use Rattle.sc_repair.specs.Resumption.{stays, GoesOn}
use Rattle.sc_repair.proofs.Resumption.{goes-on-begins, goes-on-next, goes-on-without}
use Rattle.sc_repair.proofs.opening.enter_all.Goals as goal
use Rattle.sc_repair.proofs.opening.enter_all.Goals.{then-ne+in_ok-enter_next, else-ne}

pub loop-position-init : goal.loop-position-init
loop-position-init g c =
    let m = c.args.papers.now in
    let fresh = c.requires.fresh in (
      subst (λ (chains : List Chain). GoesOn m c.args.leaver (view_of g.R.Roll.keys g.R.Roll.seats c.args.round.now) (students_in chains) (logs_in chains) 0) (sym c.requires.none)
          (goes-on-begins m c.args.leaver (view_of g.R.Roll.keys g.R.Roll.seats c.args.round.now) fresh.fits fresh.nobody fresh.settled fresh.log fresh.proposals),
      fresh.ready,
    )

pub enter_next-requires : goal.enter_next-requires
enter_next-requires g c = record {
  ready = c.loop-position.invariant.1;
  fits = c.loop-position.invariant.0.fits;
  student = among-student c.args.papers.now c.in-Some.student (contains-at (students_of c.args.papers.now) c.loop-position.position c.in-Some.student (sym c.in-Some.ensures));
  absent = c.loop-position.invariant.0.entered c.in-Some.student
      ∙ ap (λ b. b && stays c.args.leaver c.in-Some.student)
      (first-apart (students_of c.args.papers.now) c.loop-position.position c.in-Some.student c.loop-position.invariant.0.fits.well_formed.students_differ (sym c.in-Some.ensures));
}

pub loop-position-preserved : goal.loop-position-preserved
loop-position-preserved g c =
    let m = c.args.papers.now in
    let leaver = c.args.leaver in
    let k = c.loop-position.position in
    let i = c.in-Some.student in
    let here = sym c.in-Some.ensures in
    let tells : c.ne.result ≡ stays leaver i = c.ne.ensures in
    elim c.if-ne.branch [
      | then-ne+in_ok-enter_next w ↦
          let on =
          goes-on-next m leaver k i here (view_of g.R.Roll.keys g.R.Roll.seats c.loop-position.round) (view_of g.R.Roll.keys g.R.Roll.seats w.enter_next.new.round) c.loop-position.segments w.enter_next.new.segments (sym tells ∙ w.if-ne.true)
          c.loop-position.invariant.0 w.in_ok-enter_next.ensures.entered.enters w.in_ok-enter_next.ensures.chain in (
            subst (λ r. GoesOn m leaver (view_of g.R.Roll.keys g.R.Roll.seats r) (students_in c.if-ne.segments) (logs_in c.if-ne.segments) (k + 1)) (sym w.round-is)
                (subst (λ (chains : List Chain). GoesOn m leaver (view_of g.R.Roll.keys g.R.Roll.seats w.enter_next.new.round) (students_in chains) (logs_in chains) (k + 1)) (sym w.segments-is) on),
            ap is_spent w.round-is ∙ w.in_ok-enter_next.ensures.entered.ready,
          )
      | else-ne w ↦
          let on =
          goes-on-without m leaver k i here (view_of g.R.Roll.keys g.R.Roll.seats c.loop-position.round) (students_in c.loop-position.segments) (logs_in c.loop-position.segments) (sym tells ∙ w.if-ne.false) c.loop-position.invariant.0 in (
            subst (λ r. GoesOn m leaver (view_of g.R.Roll.keys g.R.Roll.seats r) (students_in c.if-ne.segments) (logs_in c.if-ne.segments) (k + 1)) (sym w.round-is)
                (subst (λ (chains : List Chain). GoesOn m leaver (view_of g.R.Roll.keys g.R.Roll.seats c.loop-position.round) (students_in chains) (logs_in chains) (k + 1)) (sym w.segments-is) on),
            ap is_spent w.round-is ∙ c.loop-position.invariant.1,
          )
    ]
