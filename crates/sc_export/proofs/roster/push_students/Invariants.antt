use Rattle.std.proofs.Common.{◌≡◌, ◌++◌, map, take}
use Rattle.std.specs.Prelude.{flat_map, All}
use Rattle.sc_export.specs.Files.{row_text, roster_fields}
use Rattle.sc_export.specs.Ranges.{IsStudentInRange}
use Rattle.sc_export.proofs.roster.push_students.Given as goal

abbrev pub invariant-loop-position : goal.invariant-loop-position
invariant-loop-position l = (l.text.items ≡ l.initial.text.items ++ flat_map row_text (map (roster_fields l.longer) (take l.position l.papers.students)))
    × All IsStudentInRange (take l.position l.papers.students)
