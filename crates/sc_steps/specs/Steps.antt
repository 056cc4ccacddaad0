-- What a step of a call reads and writes.
use Rattle.std.specs.Prelude.{Bool, ◌≡◌, ⊤, Err, List, Ok, Option, Result, ℕ}
use Rattle.std.specs.Io.KnownBytes.{Appends}
use Rattle.sc_intake.specs.Papers.{papers_in}
use Rattle.sc_intake.specs.declared.fault.IntakeFault.{IntakeFault}
use Rattle.sc_papers.specs.Market.{Market}
use Rattle.sc_report.specs.Whole.{AppendsPrefix}
use Rattle.sc_report.specs.Watched.{device_of}
use Rattle.sc_report.specs.declared.watched.Watched.{Watched}
use Rattle.sc_steps.specs.Failing.{JournalFailsAsTold, OutputFailsAsTold}
use Rattle.sc_steps.specs.Inputs.{Texts}
use Rattle.sc_steps.specs.TwoWriters.{Contents}
use Rattle.sc_steps.specs.declared.fault.RunFault.TheVariants.{Intake, OutOfMemory, WriteOut}
use Rattle.sc_steps.specs.declared.fault.RunFault.{RunFault}
use Rattle.sc_steps.specs.declared.inputs.OpeningSlices.{OpeningSlices}
use Rattle.sc_steps.specs.declared.inputs.OpeningTexts.{OpeningTexts}

-- a call did this to the bytes of the output, where they are known, and the output has failed since if the call tells so
pub record OutputGets {A W : Type 0} (Does : Option (List ℕ) → Option (List ℕ) → Result A RunFault → Type 0) (contents : W → Option (List ℕ))
    (old new : Watched W) (result : Result A RunFault) : Type 0 where
  pub bytes : Does (contents (device_of old)) (contents (device_of new)) result
  pub failed : OutputFailsAsTold old new result

-- a call did this to the bytes of the journal and the output, where they are known, and each has failed since if the call
-- tells so
pub record WritersGet {A J W : Type 0} (Does : Contents → Contents → Result A RunFault → Type 0)
    (journal : J → Option (List ℕ)) (journal_fails : J → Bool) (before after : J) (output : W → Option (List ℕ)) (old new : Watched W)
    (result : Result A RunFault) : Type 0 where
  pub bytes : Does (record { journal = journal before; output = output (device_of old) })
      (record { journal = journal after; output = output (device_of new) }) result
  pub failed : OutputFailsAsTold old new result
  pub journal_failed : JournalFailsAsTold (journal_fails before) (journal_fails after) result

-- the texts that were read
abbrev pub texts_of : OpeningTexts → Texts
texts_of given = record { schools = given.schools.items; roster = given.roster.items; lists = given.lists.items }

-- the papers that the lent texts of an opening hold, or their first fault
abbrev pub papers_held : List ℕ → OpeningSlices → Result Market IntakeFault
papers_held seed texts = papers_in seed texts.schools.now texts.roster.now texts.lists.now

-- reading ended early for the first fault of what was read, or for want of memory
abbrev pub IsOpeningFault : {A : Type 0} → Result A IntakeFault → RunFault → Type 0
IsOpeningFault reading (Intake fault) = reading ≡ Err fault
IsOpeningFault reading OutOfMemory = ⊤
IsOpeningFault reading _ = ⊥

-- a writer was given this text whole at `Ok`, and a prefix of it where it failed
abbrev pub WritesExactly : List ℕ → Option (List ℕ) → Option (List ℕ) → Result (Unit {0}) RunFault → Type 0
WritesExactly text old new (Ok done) = Appends old new text
WritesExactly text old new (Err WriteOut) = AppendsPrefix old new text
WritesExactly text old new (Err _) = ⊥
