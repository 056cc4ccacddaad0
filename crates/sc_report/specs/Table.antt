-- One table of a report alone.
use Rattle.std.specs.Prelude.{ℕ, List, codes}
use Rattle.sc_papers.specs.Market.{Market}
use Rattle.sc_papers.specs.Matching.{Matching}
use Rattle.sc_report.specs.CutoffText.{cutoff_text}
use Rattle.sc_report.specs.ReasonText.{reason_text}
use Rattle.sc_report.specs.Text.{assignment_text}
use Rattle.sc_report.specs.declared.table.Table.{Table}
use Rattle.sc_report.specs.declared.table.Table.TheVariants.{Assignment, Cutoffs, Reasons}

-- a table's name
abbrev pub table_name : Table → List ℕ
table_name Assignment = codes "assignment"
table_name Cutoffs = codes "cutoffs"
table_name Reasons = codes "reasons"

-- a table of the report of papers and a matching
abbrev pub table_text : Market → Matching → Table → List ℕ
table_text m a Assignment = assignment_text m a
table_text m a Cutoffs = cutoff_text m a
table_text m a Reasons = reason_text m a
