use Rattle.sc_export.proofs.Back.{read-back}
use Rattle.sc_export.proofs.laws.exported_papers_are_read_back.Goals as goal

pub returns : goal.returns
returns c m formed limits ranges = read-back m formed limits ranges
