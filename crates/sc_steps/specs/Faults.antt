-- The fault of a call: in words, and what a fault of an input or of a journal is told as.
use Rattle.std.specs.Prelude.{ℕ, List, ◌++◌, codes}
use Rattle.sc_intake.specs.FaultText.{fault_text, source_text}
use Rattle.sc_intake.specs.declared.fault.Cause.{Cause}
use Rattle.sc_intake.specs.declared.fault.Cause.TheVariants as cause
use Rattle.sc_intake.specs.declared.fault.IntakeFault.{IntakeFault}
use Rattle.sc_journal.specs.FaultText as journal
use Rattle.sc_journal.specs.declared.fault.JournalCause.{JournalCause}
use Rattle.sc_journal.specs.declared.fault.JournalCause.TheVariants as journal_cause
use Rattle.sc_journal.specs.declared.fault.JournalFault.{JournalFault}
use Rattle.sc_steps.specs.declared.fault.RunFault.{RunFault}
use Rattle.sc_steps.specs.declared.fault.RunFault.TheVariants.{Read, Intake, Journal, WriteOut, WriteJournal, OutOfMemory}

-- why a call ended early, in words
abbrev pub fault_words : RunFault → List ℕ
fault_words (Read source) = codes "cannot read " ++ source_text source
fault_words (Intake fault) = fault_text fault
fault_words (Journal fault) = journal.fault_text fault
fault_words WriteOut = codes "cannot write output"
fault_words WriteJournal = codes "cannot write journal"
fault_words OutOfMemory = codes "out of memory"

abbrev run_fault_by : Cause → IntakeFault → RunFault
run_fault_by cause.TooLong fault = Intake fault
run_fault_by cause.Header fault = Intake fault
run_fault_by cause.Fields fault = Intake fault
run_fault_by cause.Number fault = Intake fault
run_fault_by cause.Range fault = Intake fault
run_fault_by cause.Twice fault = Intake fault
run_fault_by cause.NoList fault = Intake fault
run_fault_by cause.NotInRoster fault = Intake fault
run_fault_by (cause.Refused refusal) fault = Intake fault
run_fault_by cause.OutOfMemory fault = OutOfMemory

-- a fault of an input as a fault of the run: want of memory is told as such, whatever the layer
abbrev pub run_fault : IntakeFault → RunFault
run_fault fault = run_fault_by fault.cause fault

abbrev journal_fault_by : JournalCause → JournalFault → RunFault
journal_fault_by journal_cause.Shape fault = Journal fault
journal_fault_by journal_cause.Number fault = Journal fault
journal_fault_by journal_cause.JournalFull fault = Journal fault
journal_fault_by (journal_cause.Refused refusal) fault = Journal fault
journal_fault_by journal_cause.OutOfMemory fault = OutOfMemory

-- a fault of a journal as a fault of the run: want of memory is told as such, whatever the layer
abbrev pub journal_fault : JournalFault → RunFault
journal_fault fault = journal_fault_by fault.cause fault
