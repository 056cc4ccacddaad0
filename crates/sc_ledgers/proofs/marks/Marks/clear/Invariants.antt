use Rattle.std.proofs.Common.{◌≡◌, length}
use Rattle.sc_ledgers.specs.Marks.{CoverFlags}
use Rattle.sc_ledgers.proofs.marks.Marks.clear.Given as goal

abbrev pub invariant-loop-place : goal.invariant-loop-place
invariant-loop-place l = record {
  cover : CoverFlags l.self-inside.always l.self-inside.places.items l.self-inside.flags.items;
  always : l.self-inside.always ≡ l.fn.self.always;
  one_each : length l.self-inside.flags.items ≡ length l.fn.self.flags;
}

abbrev pub decreases-loop-place : goal.decreases-loop-place
decreases-loop-place l = length l.self-inside.places.items
