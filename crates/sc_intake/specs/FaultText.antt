-- Faults of inputs in words.
use Rattle.std.specs.Prelude.{List, ℕ, ◌++◌, codes}
use Rattle.std.specs.Fmt.{decimal}
use Rattle.sc_papers.specs.Refusal.{code_of, refusal_words}
use Rattle.sc_intake.specs.declared.fault.Cause.{Cause}
use Rattle.sc_intake.specs.declared.fault.Cause.TheVariants.{TooLong, Header, Fields, Number, Range, Twice, NoList, NotInRoster, Refused, OutOfMemory}
use Rattle.sc_intake.specs.declared.fault.IntakeFault.{IntakeFault}
use Rattle.sc_intake.specs.declared.fault.Source.{Source}
use Rattle.sc_intake.specs.declared.fault.Source.TheVariants.{Schools, Roster, Lists, Script, Log, Journal, Bundle, Report}

-- an input's name
abbrev pub source_text : Source → List ℕ
source_text Schools = codes "schools"
source_text Roster = codes "roster"
source_text Lists = codes "lists"
source_text Script = codes "script"
source_text Log = codes "log"
source_text Journal = codes "journal"
source_text Bundle = codes "bundle"
source_text Report = codes "report"

-- a cause's name; of a refusal, its code and its words too
abbrev pub cause_text : Cause → List ℕ
cause_text TooLong = codes "TooLong"
cause_text Header = codes "Header"
cause_text Fields = codes "Fields"
cause_text Number = codes "Number"
cause_text Range = codes "Range"
cause_text Twice = codes "Twice"
cause_text NoList = codes "NoList"
cause_text NotInRoster = codes "NotInRoster"
cause_text (Refused r) = codes "Refused " ++ decimal (code_of r) ++ codes " " ++ refusal_words r
cause_text OutOfMemory = codes "OutOfMemory"

-- a fault: its input, the number of the record, and the cause
abbrev pub fault_text : IntakeFault → List ℕ
fault_text fault = source_text fault.source ++ codes " row " ++ decimal fault.row ++ codes ": " ++ cause_text fault.cause
