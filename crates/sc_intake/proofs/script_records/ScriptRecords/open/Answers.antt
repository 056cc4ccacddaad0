use Rattle.std.proofs.Common.{arith}
use Rattle.std.proofs.lemmas.List.{length-map}
use Rattle.sc_intake.specs.Script.{stamped_in}
use Rattle.sc_intake.specs.declared.fault.Source.TheVariants.{Script}
use Rattle.sc_intake.proofs.Bounded.{length-records_in}
use Rattle.sc_intake.proofs.script_records.ScriptRecords.open.Goals as goal

pub returns-clause-bounded : goal.returns-clause-bounded
returns-clause-bounded c =
    omega (arith, length-map c.in_ok-records.records.left stamped_in, length-records_in Script c.args.bytes.now c.in_ok-records.records.left c.in_ok-records.ensures)
