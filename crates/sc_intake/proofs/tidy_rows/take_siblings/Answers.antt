use Rattle.sc_intake.proofs.TidyRows.{no-schools}
use Rattle.sc_intake.proofs.tidy_rows.take_siblings.Goals as goal

pub returns-in_default : goal.returns-in_default
returns-in_default c = rw (c.from_vec.ensures, c.new.ensures.items) (no-schools c.args.text.now)
