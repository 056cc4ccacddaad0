use Rattle.std.proofs.Common.{◌<◌, length, arith, ◌∙◌}
use Rattle.sc_papers.proofs.Recorded.{records-more}
use Rattle.sc_papers.proofs.recording.records_of.Goals as goal

pub loop-position-preserved : goal.loop-position-preserved
loop-position-preserved c =
    let low : c.loop-position.position < length c.args.papers.now.students = omega (arith, c.loop-position-test.true, c.students_len-position-end.ensures.count) in
    c.in_ok-push.ensures.items
    ∙ records-more c.args.papers.now c.students_len.ensures.well_formed c.loop-position.records.items c.loop-position.position c.in_ok-record_of.field-0 low
    c.in_ok-record_of.ensures c.loop-position.invariant
