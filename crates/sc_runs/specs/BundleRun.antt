-- What running a bundle does, and how it ends.
use Rattle.std.specs.Prelude.{◌≡◌, ◌⊎◌, ℕ, Bool, false, List, Option, None, Some, Result, Ok, Err}
use Rattle.std.specs.Io.KnownBytes.{Keeps}
use Rattle.sc_lottery.specs.Seed.{seed_of}
use Rattle.sc_papers.specs.Market.{Market}
use Rattle.sc_intake.specs.Script.{script_in}
use Rattle.sc_intake.specs.declared.fault.IntakeFault.{IntakeFault}
use Rattle.sc_steps.specs.Failing.{is_output_fault}
use Rattle.sc_steps.specs.Inputs.{Turn, EndsReading, IsRead}
use Rattle.sc_steps.specs.Opening.{papers_in, WritesMatch}
use Rattle.sc_steps.specs.declared.fault.RunFault.{RunFault}
use Rattle.sc_runs.specs.Bundle.{Sections, bundle_of}
use Rattle.sc_runs.specs.Run.{opened_in, WritesRun}
use Rattle.sc_runs.specs.declared.ending.Ending.{Ending}
use Rattle.sc_runs.specs.declared.ending.Ending.TheVariants.{Done, BadSeed, BadBundle, Fault}

-- what running the papers and a script does, with a journal that keeps nothing; without a script it is
-- matching the papers alone
abbrev pub WritesWith : Option (List ℕ) → Result Market IntakeFault → Option (List ℕ) → Option (List ℕ) → Result (Unit {0}) RunFault → Type 0
WritesWith None reading old new result = WritesMatch false reading old new result
WritesWith (Some script) reading old new result =
    WritesRun (opened_in reading (script_in script)) (record { journal = None; output = old }) (record { journal = None; output = new }) result

-- what running the sections of a bundle under a seed does
abbrev pub WritesSections : List ℕ → Sections → Option (List ℕ) → Option (List ℕ) → Result (Unit {0}) RunFault → Type 0
WritesSections seed sections old new result =
    WritesWith sections.script (papers_in seed sections.schools sections.roster sections.lists) old new result

-- the sections of a bundle were run under its seed, with this result
pub record RunsSections (text : List ℕ) (old new : Option (List ℕ)) (result : Result (Unit {0}) RunFault) : Type 0 where
  pub sections : Sections
  pub seed : List ℕ
  pub split : bundle_of text ≡ Some sections
  pub seeded : seed_of sections.seed ≡ Ok seed
  pub written : WritesSections seed sections old new result

-- a bundle is refused where it has not its sections or where its seed is no seed, and nothing is then
-- written; otherwise its sections are run
abbrev pub EndsBundle : List ℕ → Option (List ℕ) → Option (List ℕ) → Ending → Type 0
EndsBundle text old new Done = RunsSections text old new (Ok tt)
EndsBundle text old new (BadSeed error) =
    (sections : Sections) × (bundle_of text ≡ Some sections) × (seed_of sections.seed ≡ Err error) × Keeps old new
EndsBundle text old new BadBundle = (bundle_of text ≡ None) × Keeps old new
EndsBundle text old new (Fault fault) = RunsSections text old new (Err fault)
EndsBundle text old new _ = ⊥

-- what running a bundle did: reading it ended early, and nothing was written; or it was read whole, and what it
-- holds was run
abbrev pub RunsBundle : Turn → Option (List ℕ) → Option (List ℕ) → Ending → Type 0
RunsBundle turn old new ending = ((fault : RunFault) × (ending ≡ Fault fault) × EndsReading turn fault × Keeps old new)
    ⊎ ((text : List ℕ) × IsRead turn text × EndsBundle text old new ending)

-- whether a call ended because the output failed
abbrev pub ends_by_output : Ending → Bool
ends_by_output (Fault fault) = is_output_fault {A = Unit {0}} (Err fault)
ends_by_output _ = false
