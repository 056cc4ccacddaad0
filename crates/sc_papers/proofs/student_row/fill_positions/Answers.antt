use Rattle.std.proofs.Common.{◌<◌, ap, ◌∙◌, length, arith}
use Rattle.std.proofs.lemmas.List.{length-set}
use Rattle.std.specs.Prelude.{None, slice_index_or, unwrap_or}
use Rattle.sc_papers.proofs.Filling.{filled-more}
use Rattle.sc_papers.proofs.student_row.fill_positions.Goals as goal

pub loop-rank-preserved : goal.loop-rank-preserved
loop-rank-preserved c =
    let rank = c.loop-rank.rank in
    let so_far = c.loop-rank.invariant in
    let within : rank < length c.loop-rank.positions = omega (arith, so_far.room, c.loop-rank-test.true, c.requires) in
    record {
      filled = filled-more (λ s. unwrap_or (slice_index_or c.args.table.now s None) 0) c.args.schools.now c.loop-rank.positions rank c.index-schools-rank.result c.unwrap_or.result c.loop-rank-test.true within c.index-schools-rank.is
          (c.unwrap_or.ensures ∙ ap (λ o. unwrap_or o 0) c.get.ensures) so_far.filled;
      room = length-set c.loop-rank.positions rank c.unwrap_or.result ∙ so_far.room;
    }
