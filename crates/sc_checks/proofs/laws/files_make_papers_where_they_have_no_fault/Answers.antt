use Rattle.sc_checks.proofs.Together.{first-fault-is-told, no-fault-in-papers}
use Rattle.sc_checks.proofs.laws.files_make_papers_where_they_have_no_fault.Goals as goal

pub returns : goal.returns
returns c = record { none = no-fault-in-papers; first = first-fault-is-told }
