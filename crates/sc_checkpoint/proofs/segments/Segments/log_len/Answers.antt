use Rattle.std.proofs.Common.{◌-◌, ◌^◌, ◌∙◌}
use Rattle.sc_checkpoint.specs.Chains.{logs_in}
use Rattle.sc_checkpoint.proofs.Marking.{count-next}
use Rattle.sc_checkpoint.proofs.segments.Segments.log_len.Goals as goal

pub loop-position-preserved : goal.loop-position-preserved
loop-position-preserved c =
    c.saturating_add-count.ensures
    ∙ count-next (logs_in c.args.self.now) c.loop-position.position c.loop-position.count (2 ^ 64 - 1) c.segment.result.now c.segment.ensures c.loop-position.invariant
