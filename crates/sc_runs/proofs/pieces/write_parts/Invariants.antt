-- The header and the first parts were written, but for what the text holds.
use Rattle.std.proofs.Common.{◌≡◌, ℕ, List, ◌++◌, take}
use Rattle.sc_notices.specs.Telling.{header_of, joined, AreParts}
use Rattle.sc_report.specs.Watched.{device_of, has_failed}
use Rattle.sc_runs.specs.Pieces.{IsWrittenTo}
use Rattle.sc_runs.proofs.pieces.write_parts.Given as goal

abbrev pub invariant-loop-at : goal.invariant-loop-at
invariant-loop-at g l = record {
  written : (parts : List (List ℕ)) → AreParts l.told parts
      → IsWrittenTo (header_of l.told ++ joined (take l.at parts)) l.text.items (g.W.Write.contents (device_of l.initial.out)) (g.W.Write.contents (device_of l.out));
  unfailed : has_failed l.out ≡ has_failed l.initial.out;
}
