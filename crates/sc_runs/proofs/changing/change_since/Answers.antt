use Rattle.std.proofs.Common.{Err, Ok, subst, sym, rules}
use Rattle.sc_report.specs.Watched.{device_of}
use Rattle.sc_steps.specs.Opening.{papers_in}
use Rattle.sc_runs.specs.Changing.{IsChange}
use Rattle.sc_runs.proofs.Changes.{fault-more, told-change, told-fault}
use Rattle.sc_runs.proofs.changing.change_since.Goals as goal
use Rattle.sc_runs.specs.Steps.{ArePlacesAfter}

pub returns-in-Err : goal.returns-in-Err
returns-in-Err g c = record {
  bytes = λ since first.
      let reading = papers_in c.args.seed.now c.args.texts.schools.now c.args.texts.roster.now c.args.texts.lists.now in
      let journal = c.args.journal.now in
      told-fault (IsChange since reading journal) reading journal (g.W.Write.contents (device_of c.args.out.now)) c.in-Err.fault
      (fault-more reading journal c.args.lines.now first.rest c.in-Err.fault first.cut c.in-Err.ensures.refused);
  failed = search rules;
}

pub returns-in-Ok-change_from : goal.returns-in-Ok-change_from
returns-in-Ok-change_from g c = record {
  bytes = λ since first.
      let reading = papers_in c.args.seed.now c.args.texts.schools.now c.args.texts.roster.now c.args.texts.lists.now in
      told-change since reading c.args.journal.now c.args.lines.now c.as_slice.result.now
      (g.W.Write.contents (device_of c.args.out.now)) (g.W.Write.contents (device_of c.change_from.new.out))
      first (subst (ArePlacesAfter reading c.args.lines.now) (sym c.as_slice.ensures.value) c.in-Ok.ensures.places)
      (Ok c.in-Ok-change_from.tail) c.in-Ok-change_from.ensures.bytes;
  failed = search rules;
}

pub returns : goal.returns
returns g c = record {
  bytes = λ since first.
      let reading = papers_in c.args.seed.now c.args.texts.schools.now c.args.texts.roster.now c.args.texts.lists.now in
      told-change since reading c.args.journal.now c.args.lines.now c.as_slice.result.now
      (g.W.Write.contents (device_of c.args.out.now)) (g.W.Write.contents (device_of c.change_from.new.out))
      first (subst (ArePlacesAfter reading c.args.lines.now) (sym c.as_slice.ensures.value) c.in-Ok.ensures.places)
      (Err c.in-Err-change_from.fault) c.in-Err-change_from.ensures.bytes;
  failed = search rules;
}
