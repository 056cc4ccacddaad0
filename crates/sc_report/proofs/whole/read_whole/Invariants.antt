-- What was given is what the reader lost, within the limit; the piece keeps its length, and no call failed.
use Rattle.std.proofs.Common.{◌-◌, ◌≡◌, ◌≤◌, min, vec_len}
use Rattle.std.specs.Io.KnownBytes.{Consumes}
use Rattle.sc_report.specs.Watched.{device_of, has_failed}
use Rattle.sc_report.proofs.whole.read_whole.Given as goal

abbrev pub invariant-pieces : goal.invariant-pieces
invariant-pieces g l = record {
  within : vec_len l.given ≤ l.limit;
  room : vec_len l.piece ≡ min l.limit 61440;
  consumed : Consumes (g.R.Read.remaining (device_of l.initial.from)) (g.R.Read.remaining (device_of l.from)) l.given.items;
  failed : has_failed l.from ≡ has_failed l.initial.from;
}

abbrev pub decreases-pieces : goal.decreases-pieces
decreases-pieces g l = l.limit - vec_len l.given
