use Rattle.sc_checkpoint.specs.Chains.{logs_in}
use Rattle.sc_ledgers.specs.Course.{labels_of}
use Rattle.sc_ledgers.proofs.Kept.{school-kept, turns-come, whole-kept}
use Rattle.sc_ledgers.proofs.opened.open_ledgers.Goals as goal

pub returns-clause-whole : goal.returns-clause-whole
returns-clause-whole c =
    let m = c.args.papers.now in
    let lists = c.note_all.new.lists.items in
    let ledgers = c.in_ok-schools.schools.items in
    whole-kept c.students_len.ensures.well_formed c.in_ok-note_all.ensures.whole (labels_of m ledgers) (school-kept m lists ledgers c.in_ok-schools.ensures)

pub ledgers_of-requires : goal.ledgers_of-requires
ledgers_of-requires c = record {
  turns = turns-come c.args.papers.now c.note_all.new.lists.items (logs_in c.args.segments.now) c.students_len.ensures.well_formed c.students_len.ensures.within_limits c.note_all.ensures.one_each c.in_ok-note_all.ensures.whole;
}
