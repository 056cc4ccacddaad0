-- When a call counts the writers that it was given as failed.
use Rattle.std.specs.Prelude.{◌≡◌, ◌||◌, Bool, true, false, Result, Err}
use Rattle.sc_report.specs.Watched.{has_failed}
use Rattle.sc_report.specs.declared.watched.Watched.{Watched}
use Rattle.sc_steps.specs.declared.fault.RunFault.{RunFault}
use Rattle.sc_steps.specs.declared.fault.RunFault.TheVariants.{WriteOut, WriteJournal}

-- whether a run ended because the output failed
abbrev pub is_output_fault : {A : Type 0} → Result A RunFault → Bool
is_output_fault (Err WriteOut) = true
is_output_fault _ = false

-- an output has failed after a call if it had before, or if the call tells so
abbrev pub OutputFailsAsTold : {A W : Type 0} → Watched W → Watched W → Result A RunFault → Type 0
OutputFailsAsTold old new result = has_failed new ≡ (has_failed old || is_output_fault result)

-- whether a run ended because the journal could not be written
abbrev pub is_journal_fault : {A : Type 0} → Result A RunFault → Bool
is_journal_fault (Err WriteJournal) = true
is_journal_fault _ = false

-- a journal has failed after a call if it had before, or if the call tells so
abbrev pub JournalFailsAsTold : {A : Type 0} → Bool → Bool → Result A RunFault → Type 0
JournalFailsAsTold before after result = after ≡ (before || is_journal_fault result)
