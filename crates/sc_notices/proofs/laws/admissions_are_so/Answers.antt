use Rattle.sc_notices.proofs.AdmissionLaws.{class_list-ascends, class_list-exact, class_list-keys, waiting_list-ascends, waiting_list-exact, waiting_list-keys}
use Rattle.sc_notices.proofs.laws.admissions_are_so.Goals as goal

pub returns-clause-admitted : goal.returns-clause-admitted
returns-clause-admitted c = class_list-exact

pub returns-clause-waiting : goal.returns-clause-waiting
returns-clause-waiting c = waiting_list-exact

pub returns-clause-admitted_keys : goal.returns-clause-admitted_keys
returns-clause-admitted_keys c = class_list-keys

pub returns-clause-waiting_keys : goal.returns-clause-waiting_keys
returns-clause-waiting_keys c = waiting_list-keys

pub returns-clause-admitted_ascend : goal.returns-clause-admitted_ascend
returns-clause-admitted_ascend c = class_list-ascends

pub returns-clause-waiting_ascend : goal.returns-clause-waiting_ascend
returns-clause-waiting_ascend c = waiting_list-ascends
