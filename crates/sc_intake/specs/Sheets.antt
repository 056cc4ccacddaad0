-- How files are kept while their faults are told. Other contracts see the faults that are left and the rows alone.
use Rattle.std.specs.Prelude.{ℕ, ◌+◌, ◌≤◌, List, [], ◌∷◌, ◌++◌, length, Option, None, Some, Result, Ok, Err}
use Rattle.sc_intake.specs.Checking.{judged_from, script_faults_from, unjudged, Judged, Judging}
use Rattle.sc_intake.specs.Fault.{fault_at}
use Rattle.sc_intake.specs.Rows.{next_row_at, AreRows}
use Rattle.sc_intake.specs.Seen.{AreNumbers}
use Rattle.sc_intake.specs.declared.fault.Cause.{Cause}
use Rattle.sc_intake.specs.declared.fault.IntakeFault.{IntakeFault}
use Rattle.sc_intake.specs.declared.fault.Source.{Source}
use Rattle.sc_intake.specs.declared.script_faults.Unjudged.{Unjudged}
use Rattle.sc_intake.specs.declared.sheet.Underway.{Underway}

-- the cause that a reading ends with, if there is one
abbrev pub cause_in : {A : Type 0} → Result A Cause → Option Cause
cause_in (Ok x) = None
cause_in (Err cause) = Some cause

-- the fault of a row, where there is a cause
abbrev pub fault_by : Source → ℕ → Option Cause → List IntakeFault
fault_by source row None = []
fault_by source row (Some cause) = fault_at source row cause ∷ []

-- the fault that was found, if there was one
abbrev pub told_by : Option IntakeFault → List IntakeFault
told_by None = []
told_by (Some fault) = fault ∷ []

-- what was judged, with faults before its own
abbrev pub with_told : {A : Type 0} → List IntakeFault → Judged A → Judged A
with_told told judged = record { good = judged.good; faults = told ++ judged.faults }

-- what the judging of records comes to, after the row with this number and these rows
abbrev pub left_from : {R : Type 0} → Source → ℕ → (R → ℕ) → (ℕ → List (List ℕ) → Result R Cause) → ℕ → ℕ → List R → List (List (List ℕ)) → Judged (List R)
left_from source most number read width row rows records = judged_from (row + 1) source (next_row_at most number read width) (unjudged rows) records

-- what the judging of the records that are left comes to
abbrev pub left_of : {R : Type 0} → Source → ℕ → (R → ℕ) → (ℕ → List (List ℕ) → Result R Cause) → Underway R → Judged (List R)
left_of source most number read u = left_from source most number read u.width u.row u.rows.items u.records.left

-- what is true of rows while they are judged
pub record IsSound {R : Type 0} (most : ℕ) (number : R → ℕ) (u : Underway R) : Type 0 where
  pub rows : AreRows number most u.rows.items
  pub seen : AreNumbers number u.rows.items u.seen
  pub few : u.row + length u.records.left ≤ 67108866

-- the same, where they are being judged
abbrev pub IsSoundIfAny : {R : Type 0} → ℕ → (R → ℕ) → Option (Underway R) → Type 0
IsSoundIfAny most number None = Unit {0}
IsSoundIfAny most number (Some u) = IsSound most number u

-- what a sheet stands for
abbrev pub judging_of : {R : Type 0} → Source → ℕ → (R → ℕ) → (ℕ → List (List ℕ) → Result R Cause) → Option IntakeFault → Option (Underway R) → Option (List R) → Judging R
judging_of source most number read whole None rows = record { faults = told_by whole; rows = rows; good = rows }
judging_of source most number read whole (Some u) rows = record {
  faults = told_by whole ++ (left_of source most number read u).faults;
  rows = rows;
  good = Some (left_of source most number read u).good;
}

-- the faults that are left of a script
abbrev pub script_left : Option IntakeFault → Option Unjudged → List IntakeFault
script_left whole None = told_by whole
script_left whole (Some u) = told_by whole ++ script_faults_from (u.row + 1) u.records.left

-- the records of a script that are left are few
abbrev pub AreFew : Option Unjudged → Type 0
AreFew None = Unit {0}
AreFew (Some u) = u.row + length u.records.left ≤ 67108866
