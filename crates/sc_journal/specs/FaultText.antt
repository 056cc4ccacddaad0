-- Faults of a journal in words.
use Rattle.std.specs.Prelude.{List, ℕ, ◌++◌, codes}
use Rattle.std.specs.Fmt.{decimal}
use Rattle.sc_papers.specs.Refusal.{code_of, refusal_words}
use Rattle.sc_journal.specs.declared.fault.JournalCause.{JournalCause}
use Rattle.sc_journal.specs.declared.fault.JournalCause.TheVariants.{Shape, Number, JournalFull, Refused, OutOfMemory}
use Rattle.sc_journal.specs.declared.fault.JournalFault.{JournalFault}

-- a cause's name; of a refusal, its code and its words too
abbrev pub cause_text : JournalCause → List ℕ
cause_text Shape = codes "Shape"
cause_text Number = codes "Number"
cause_text JournalFull = codes "JournalFull"
cause_text (Refused r) = codes "Refused " ++ decimal (code_of r) ++ codes " " ++ refusal_words r
cause_text OutOfMemory = codes "OutOfMemory"

-- a fault: the number of the line, and the cause
abbrev pub fault_text : JournalFault → List ℕ
fault_text fault = codes "journal line " ++ decimal fault.line ++ codes ": " ++ cause_text fault.cause
