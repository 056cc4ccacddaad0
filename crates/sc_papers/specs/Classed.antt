-- A choice of a student as the papers keep it.
use Rattle.std.specs.Prelude.{ℕ}

-- where the school of a choice stands in the order of entry, and the student's priority class there
pub record Classed : Type 0 where
  pub position : ℕ
  pub class : ℕ
