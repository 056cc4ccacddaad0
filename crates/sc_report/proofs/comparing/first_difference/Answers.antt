use Rattle.std.proofs.Common.{◌+◌, ◌∙◌, length, subst, take, arith}
use Rattle.std.proofs.Math.Bool.{or-false}
use Rattle.std.proofs.lemmas.List.{length-take}
use Rattle.sc_report.specs.Steps.{GoesOn}
use Rattle.sc_report.specs.Watched.{device_of}
use Rattle.sc_report.specs.declared.comparing.Meeting.TheVariants.{Alike}
use Rattle.sc_report.proofs.KnownLemmas.{GivesAtMost-more}
use Rattle.sc_report.proofs.comparing.first_difference.Goals as goal

pub pieces-preserved : goal.pieces-preserved
pieces-preserved g c =
    let old = g.R.Read.remaining (device_of c.args.from.now) in
    let new = g.R.Read.remaining (device_of c.meet_next.new.from) in
    let goes : GoesOn c.args.text.now c.pieces.len old new (Alike c.in-Alike.more) =
    subst (GoesOn c.args.text.now c.pieces.len old new) c.in-Alike.is (c.in_ok-more.ensures.met old c.pieces.invariant.consumed) in
    record {
      within = goes.1;
      room = c.pieces.invariant.room;
      small = c.pieces.invariant.small;
      consumed = goes.2;
      failed = c.in_ok-more.ensures.takes.failed ∙ or-false _ ∙ c.pieces.invariant.failed;
    }

pub returns-in_err-more-clause-limit : goal.returns-in_err-more-clause-limit
returns-in_err-more-clause-limit g c =
    GivesAtMost-more (length c.args.text.now + 61440) (length c.deref_mut.result.now) _ _ _ (take c.pieces.len c.args.text.now) c.pieces.invariant.consumed c.in_err-more.ensures.takes.few
    (omega (arith, length-take c.pieces.len c.args.text.now, c.pieces.invariant.small, c.deref_mut.ensures.len))

pub returns-in-Ended-clause-limit : goal.returns-in-Ended-clause-limit
returns-in-Ended-clause-limit g c =
    GivesAtMost-more (length c.args.text.now + 61440) (length c.deref_mut.result.now) _ _ _ (take c.pieces.len c.args.text.now) c.pieces.invariant.consumed c.in_ok-more.ensures.takes.few
    (omega (arith, length-take c.pieces.len c.args.text.now, c.pieces.invariant.small, c.deref_mut.ensures.len))
