use Rattle.sc_words.proofs.Told.{one_more_option}
use Rattle.sc_words.proofs.program.subcommand.Goals as goal

pub loop-option-preserved : goal.loop-option-preserved
loop-option-preserved c = one_more_option _ _ _ _ _ _ _ c.loop-option-test.true c.in_ok-command.ensures c.arg.ensures c.loop-option.invariant
