use Rattle.std.proofs.Common.{ap, ◌∙◌, List, length, arith, refl}
use Rattle.std.proofs.lemmas.List.{take_all}
use Rattle.std.proofs.lemmas.Option.{slice_get_read}
use Rattle.sc_checkpoint.specs.NextChoices.{stands}
use Rattle.sc_checkpoint.specs.declared.standing.Standing.{Standing}
use Rattle.sc_engine.specs.Round.{view_of, is_spent}
use Rattle.sc_engine.proofs.Resuming.{absent-put, listed-after, room-put_if, put-more, continues-put}
use Rattle.sc_engine.proofs.round.Round.put_all.Goals as goal

pub put-requires-clause-absent : goal.put-requires-clause-absent
put-requires-clause-absent g c = absent-put c.requires.after.1 c.loop-choice.invariant c.choice-item.result (slice_get_read c.args.next_choices.now (length c.args.next_choices.now) c.loop-choice.choice-index c.choice-item.result refl c.loop-choice-test.true c.choice-item.is)

pub put-requires-clause-listed : goal.put-requires-clause-listed
put-requires-clause-listed g c = listed-after c.requires.after.1 c.loop-choice.choice-index c.choice-item.result (slice_get_read c.args.next_choices.now (length c.args.next_choices.now) c.loop-choice.choice-index c.choice-item.result refl c.loop-choice-test.true c.choice-item.is)

pub put-requires-clause-room : goal.put-requires-clause-room
put-requires-clause-room g c = room-put_if c.requires.after.1 c.loop-choice.invariant c.choice-item.result (slice_get_read c.args.next_choices.now (length c.args.next_choices.now) c.loop-choice.choice-index c.choice-item.result refl c.loop-choice-test.true c.choice-item.is)

pub loop-choice-preserved : goal.loop-choice-preserved
loop-choice-preserved g c =
    put-more c.requires.after.1 c.loop-choice.invariant (view_of g.R.Roll.keys g.R.Roll.seats c.put.new.self) (is_spent c.put.new.self) c.choice-item.result
    (slice_get_read c.args.next_choices.now (length c.args.next_choices.now) c.loop-choice.choice-index c.choice-item.result refl c.loop-choice-test.true c.choice-item.is)
    c.in_ok-put.ensures.stands c.put.ensures.spent

pub returns : goal.returns
returns g c =
    let put = c.loop-choice.invariant in
    let choices = c.args.next_choices.now in
    let turn = c.loop-choice.choice-index in
    record {
      fits = put.fits;
      entered = λ i. put.entered i ∙ ap (λ (first : List Standing). stands first i) (take_all turn choices (omega arith));
      continues = λ earlier after. continues-put c.args.papers.now earlier choices (view_of g.R.Roll.keys g.R.Roll.seats c.loop-choice.self) (is_spent c.loop-choice.self) turn (omega arith) put after;
      log = put.log;
      proposals = put.proposals;
      ready = put.ready;
    }
