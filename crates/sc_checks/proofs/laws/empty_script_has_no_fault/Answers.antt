use Rattle.std.proofs.Common.{refl}
use Rattle.csv.specs.Machine.{next_record}
use Rattle.csv.specs.Reading.{records_from, strip_bom}
use Rattle.sc_intake.specs.Checking.{script_faults_from}
use Rattle.sc_intake.specs.File.{records_in}
use Rattle.sc_checks.proofs.laws.empty_script_has_no_fault.Goals as goal

pub returns : goal.returns
unfolding records_in script_faults_from strip_bom records_from next_record
returns c = refl
