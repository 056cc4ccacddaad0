use Rattle.std.proofs.Common.{◌≡◌, ℕ, take, Contains}
use Rattle.std.specs.Prelude.{slice_index}
use Rattle.sc_region.proofs.candidates.hold_together.Given as goal

abbrev pub invariant-loop-school : goal.invariant-loop-school
invariant-loop-school l =
    record {
      same : l.groups ≡ l.fn.groups;
      own : l.group ≡ slice_index l.fn.groups l.fn.start;
      together : (at : ℕ) → Contains (take l.school-index l.schools) at → slice_index l.fn.groups at ≡ slice_index l.fn.groups l.fn.start;
    }
