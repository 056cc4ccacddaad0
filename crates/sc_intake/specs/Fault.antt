-- Faults of inputs, and answers that may be want of memory.
use Rattle.std.specs.Prelude.{◌≡◌, ◌⊎◌, ℕ, Result, Ok, Err}
use Rattle.sc_intake.specs.declared.fault.Cause.{Cause}
use Rattle.sc_intake.specs.declared.fault.Cause.TheVariants.{OutOfMemory}
use Rattle.sc_intake.specs.declared.fault.IntakeFault.{IntakeFault}
use Rattle.sc_intake.specs.declared.fault.Source.{Source}

-- the row that is named with a cause: want of memory is of no row
abbrev pub row_of : ℕ → Cause → ℕ
row_of row OutOfMemory = 0
row_of row _ = row

-- the fault of a row of an input
abbrev pub fault_at : Source → ℕ → Cause → IntakeFault
fault_at source row cause = record { source = source; row = row_of row cause; cause = cause }

-- want of memory in reading an input
abbrev pub no_memory : Source → IntakeFault
no_memory source = fault_at source 0 OutOfMemory

-- one step after another: the first error, or what the second gives
infixl 10 ◌>>=◌
abbrev pub ◌>>=◌ : {A B E : Type 0} → Result A E → (A → Result B E) → Result B E
Ok x >>= f = f x
Err e >>= f = Err e

-- an error is a reading's, or in its place that of want of memory
abbrev pub IsFault : {B E : Type 0} → E → Result B E → E → Type 0
IsFault none reading e = (reading ≡ Err e) ⊎ (e ≡ none)

-- an answer is what a reading gives, or in its place the error of want of memory
abbrev pub Gives : {A B E : Type 0} → (A → B) → E → Result B E → Result A E → Type 0
Gives seen none reading (Ok x) = reading ≡ Ok (seen x)
Gives seen none reading (Err e) = IsFault none reading e
