use Rattle.std.proofs.Common.{◌≡◌, ◌++◌, flat_map, take}
use Rattle.sc_lines.specs.Line.{further_text}
use Rattle.sc_lines.proofs.lines.push_further.Given as goal

abbrev pub invariant-loop-school : goal.invariant-loop-school
invariant-loop-school l = l.text.items ≡ l.fn.text.items ++ flat_map further_text (take l.school-index l.schools)
