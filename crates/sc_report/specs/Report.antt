-- What writing the report does to the bytes that a writer holds, where those are known.
use Rattle.std.specs.Prelude.{ℕ, Bool, true, false, List, Option, Result, Ok, Err}
use Rattle.std.specs.Io.KnownBytes.{Appends, Keeps}
use Rattle.sc_papers.specs.Market.{Market}
use Rattle.sc_papers.specs.Matching.{Matching}
use Rattle.sc_report.specs.Text.{IsReportText}
use Rattle.sc_report.specs.Whole.{AppendsPrefix}
use Rattle.sc_report.specs.declared.report.ReportFault.{ReportFault}
use Rattle.sc_report.specs.declared.report.ReportFault.TheVariants.{Write, OutOfMemory}

-- the writer was given a report text whole at `Ok`, a prefix of one at `Write`, and nothing at
-- `OutOfMemory`
abbrev pub WritesReport : Market → Matching → Option (List ℕ) → Option (List ℕ) → Result (Unit {0}) ReportFault → Type 0
WritesReport m a old new (Ok done) = (text : List ℕ) × IsReportText m a text × Appends old new text
WritesReport m a old new (Err Write) = (text : List ℕ) × IsReportText m a text × AppendsPrefix old new text
WritesReport m a old new (Err OutOfMemory) = Keeps old new

-- whether writing the report ended because the device failed
abbrev pub is_write_fault : Result (Unit {0}) ReportFault → Bool
is_write_fault (Ok done) = false
is_write_fault (Err Write) = true
is_write_fault (Err OutOfMemory) = false
