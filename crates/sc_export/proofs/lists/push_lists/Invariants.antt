use Rattle.std.proofs.Common.{◌≡◌, ◌++◌, map, take}
use Rattle.std.specs.Prelude.{flat_map}
use Rattle.sc_export.specs.Files.{row_text, list_fields}
use Rattle.sc_export.proofs.lists.push_lists.Given as goal

abbrev pub invariant-loop-position : goal.invariant-loop-position
invariant-loop-position l = l.text.items ≡ l.initial.text.items ++ flat_map row_text (map list_fields (take l.position l.papers.students))
