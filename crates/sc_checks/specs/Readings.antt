-- What a reading that ends at the first fault is, by all the faults.
use Rattle.std.specs.Prelude.{◌≡◌, List, [], ◌∷◌, Result, Ok, Err}
use Rattle.sc_intake.specs.Checking.{Judged}
use Rattle.sc_intake.specs.Fault.{◌>>=◌}
use Rattle.sc_intake.specs.declared.fault.IntakeFault.{IntakeFault}

-- what is good, where there is no fault, or else the first of the faults
abbrev pub unless_faults : {A : Type 0} → A → List IntakeFault → Result A IntakeFault
unless_faults good [] = Ok good
unless_faults good (first ∷ rest) = Err first

-- what was judged good, where nothing has a fault, or else the first fault
abbrev pub unless_faulty : {A : Type 0} → Judged A → Result A IntakeFault
unless_faulty judged = unless_faults judged.good judged.faults

-- what a file reads as, by what judging it finds
abbrev pub reading_of : {A : Type 0} → Result (Judged A) IntakeFault → Result A IntakeFault
reading_of judged = judged >>= unless_faulty

-- faults begin with this one
abbrev pub BeginsWith : IntakeFault → List IntakeFault → Type 0
BeginsWith fault faults = (rest : List IntakeFault) × (faults ≡ fault ∷ rest)
