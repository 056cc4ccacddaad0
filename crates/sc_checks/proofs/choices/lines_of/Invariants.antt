use Rattle.std.proofs.Common.{◌≡◌, map, option_map, take}
use Rattle.sc_checks.specs.Lines.{row_at}
use Rattle.sc_checks.specs.Representation.{row_view, Finds}
use Rattle.sc_checks.proofs.choices.lines_of.Given as goal

abbrev pub invariant-loop-list : goal.invariant-loop-list
invariant-loop-list l = record {
  lines : map (option_map row_view) l.lines.items ≡ map (λ list. row_at l.text list.row) (take l.list-index l.lists);
  finds : Finds l.text l.finder;
}
