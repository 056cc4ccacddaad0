use Rattle.std.proofs.Common.{◌≡◌, ◌++◌, map, take}
use Rattle.std.specs.Prelude.{flat_map, All}
use Rattle.sc_export.specs.Files.{row_text, school_fields}
use Rattle.sc_export.specs.Ranges.{IsSchoolInRange}
use Rattle.sc_export.proofs.schools.push_schools.Given as goal

abbrev pub invariant-loop-position : goal.invariant-loop-position
invariant-loop-position l = (l.text.items ≡ l.initial.text.items ++ flat_map row_text (map school_fields (take l.position l.papers.schools)))
    × All IsSchoolInRange (take l.position l.papers.schools)
