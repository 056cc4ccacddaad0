use Rattle.std.proofs.Common.{arith}
use Rattle.sc_intake.specs.declared.fault.Source.TheVariants.{Script}
use Rattle.sc_intake.proofs.Bounded.{length-records_in}
use Rattle.sc_intake.proofs.script_faults.judge_script.Goals as goal

pub judge_all-requires : goal.judge_all-requires
judge_all-requires c = omega (arith, length-records_in Script c.args.bytes.now c.in-Ok.records.left c.in-Ok.ensures)
