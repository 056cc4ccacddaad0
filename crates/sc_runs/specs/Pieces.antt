-- What writing a text in pieces does, where bytes are known.
use Rattle.std.specs.Prelude.{◌≡◌, ℕ, List, ◌++◌, Option, Result, Ok, Err}
use Rattle.std.specs.Io.KnownBytes.{Appends}
use Rattle.sc_report.specs.Whole.{AppendsPrefix}
use Rattle.sc_steps.specs.declared.fault.RunFault.{RunFault}
use Rattle.sc_steps.specs.declared.fault.RunFault.TheVariants.{WriteOut, OutOfMemory}

-- a text was written whole at `Ok`, and a prefix of it where the writer failed, and at want of memory
abbrev pub WritesInPieces : List ℕ → Option (List ℕ) → Option (List ℕ) → Result (Unit {0}) RunFault → Type 0
WritesInPieces text old new (Ok done) = Appends old new text
WritesInPieces text old new (Err WriteOut) = AppendsPrefix old new text
WritesInPieces text old new (Err OutOfMemory) = AppendsPrefix old new text
WritesInPieces text old new (Err _) = ⊥

-- a text was written but for its end, which is left
pub record IsWrittenTo (text left : List ℕ) (old new : Option (List ℕ)) : Type 0 where
  pub written : List ℕ
  pub wrote : Appends old new written
  pub all : text ≡ written ++ left

-- of a text what is left after a call was not written, and the rest was; a prefix of the text where the writer failed
abbrev pub WritesTo : List ℕ → List ℕ → Option (List ℕ) → Option (List ℕ) → Result (Unit {0}) RunFault → Type 0
WritesTo text left old new (Ok done) = IsWrittenTo text left old new
WritesTo text left old new (Err WriteOut) = AppendsPrefix old new text
WritesTo text left old new (Err _) = ⊥
