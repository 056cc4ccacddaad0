-- What the steps of reading and of comparing do. Public contracts do not cite it.
use Rattle.std.specs.Prelude.{◌++◌, ◌<◌, ◌≡◌, ◌≤◌, length, take, List, Option, Result, ℕ}
use Rattle.std.specs.Io.KnownBytes.{Consumes}
use Rattle.sc_report.specs.Comparing.{common, ComparesWith}
use Rattle.sc_report.specs.Watched.{device_of}
use Rattle.sc_report.specs.Whole.{GivesAtMost, ReaderFailsAsTold}
use Rattle.sc_report.specs.declared.comparing.Meeting.TheVariants.{Alike, Ended}
use Rattle.sc_report.specs.declared.comparing.Meeting.{Meeting}
use Rattle.sc_report.specs.declared.comparing.Met.{Met}
use Rattle.sc_report.specs.declared.watched.Watched.{Watched}
use Rattle.sc_report.specs.declared.whole.ReadFault.{ReadFault}

-- a call took no more than so many bytes of a reader, where they are known, and it has failed since if the call tells so
pub record TakesAtMost {V R : Type 0} (limit : ℕ) (remaining : R → Option (List ℕ)) (old new : Watched R) (result : Result V ReadFault) : Type 0 where
  pub few : GivesAtMost limit (remaining (device_of old)) (remaining (device_of new))
  pub failed : ReaderFailsAsTold old new result

-- a reader gave `count` more bytes, which stand after those that it had given
abbrev pub GivesMore : Option (List ℕ) → Option (List ℕ) → List ℕ → List ℕ → ℕ → Type 0
GivesMore bytes left old new count =
    (came : List ℕ) × (new ≡ old ++ came) × (length came ≡ count) × Consumes bytes left came

-- a reader gave some bytes, of which so many begin this text
abbrev pub Meets : List ℕ → Option (List ℕ) → Option (List ℕ) → Met → Type 0
Meets text bytes left met =
    (came : List ℕ) × Consumes bytes left came × (length came ≡ met.came) × (met.alike ≡ length (common text came)) × (take met.alike text ≡ common text came)

-- a reader that had these bytes goes on as a text does, beyond so many of its bytes; or what comparing it found
abbrev pub GoesOn : List ℕ → ℕ → Option (List ℕ) → Option (List ℕ) → Meeting → Type 0
GoesOn text len bytes left (Alike more) = (len < more) × (more ≤ length text) × Consumes bytes left (take more text)
GoesOn text len bytes left (Ended difference) = ComparesWith text bytes left difference
