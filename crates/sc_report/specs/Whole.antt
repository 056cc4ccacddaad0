-- What writing a text whole and reading an input whole do to the bytes of a device, where those are known.
use Rattle.std.specs.Prelude.{◌≡◌, ℕ, ◌≤◌, ◌||◌, Bool, true, false, List, Option, Result, length, take, drop, ⊤, None, Some, Ok, Err, MatchResult}
use Rattle.std.specs.Io.KnownBytes.{Appends, Consumes}
use Rattle.sc_report.specs.Watched.{has_failed}
use Rattle.sc_report.specs.declared.watched.Watched.{Watched}
use Rattle.sc_report.specs.declared.whole.ReadFault.{ReadFault}
use Rattle.sc_report.specs.declared.whole.ReadFault.TheVariants.{Device, OutOfMemory}

-- what a writer holds grew by a prefix of the text
abbrev pub AppendsPrefix : Option (List ℕ) → Option (List ℕ) → List ℕ → Type 0
AppendsPrefix old new text = (count : ℕ) × Appends old new (take count text)

-- the writer was given the whole text at `Ok`, and a prefix of it at `Err`
abbrev pub WritesWhole : {T E : Type 0} → Option (List ℕ) → Option (List ℕ) → Result T E → List ℕ → Type 0
WritesWhole old new result text = MatchResult result (λ _. Appends old new text) (λ _. AppendsPrefix old new text)

-- a reader gave the first `limit` of its bytes, or all where it has fewer, and the others are left
abbrev pub GivesFirst : ℕ → Option (List ℕ) → Option (List ℕ) → List ℕ → Type 0
GivesFirst limit None left given = ⊤
GivesFirst limit (Some bytes) None given = ⊥
GivesFirst limit (Some bytes) (Some left) given = (given ≡ take limit bytes) × (left ≡ drop limit bytes)

-- a reader gave no more than `limit` bytes
abbrev pub GivesAtMost : ℕ → Option (List ℕ) → Option (List ℕ) → Type 0
GivesAtMost limit bytes left = (given : List ℕ) × Consumes bytes left given × (length given ≤ limit)

-- what a whole read gave at `Ok`, and how much it took at `Err`
abbrev pub ReadsWhole : {V E : Type 0} → (V → List ℕ) → ℕ → Option (List ℕ) → Option (List ℕ) → Result V E → Type 0
ReadsWhole items limit bytes left result =
    MatchResult result (λ given. GivesFirst limit bytes left (items given)) (λ _. GivesAtMost limit bytes left)

-- whether a whole read ended because the device failed
abbrev pub is_device_fault : {V : Type 0} → Result V ReadFault → Bool
is_device_fault (Ok given) = false
is_device_fault (Err Device) = true
is_device_fault (Err OutOfMemory) = false

-- a reader has failed after a call if it had before, or if the call tells so
abbrev pub ReaderFailsAsTold : {V R : Type 0} → Watched R → Watched R → Result V ReadFault → Type 0
ReaderFailsAsTold old new result = has_failed new ≡ (has_failed old || is_device_fault result)
