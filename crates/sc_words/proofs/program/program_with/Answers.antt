use Rattle.sc_words.proofs.Told.{one_more_subcommand}
use Rattle.sc_words.proofs.program.program_with.Goals as goal

pub loop-known-preserved : goal.loop-known-preserved
loop-known-preserved c = one_more_subcommand _ _ _ _ _ _ c.loop-known-test.true c.in_ok-program-2.ensures c.in_ok-subcommand.ensures c.loop-known.invariant
