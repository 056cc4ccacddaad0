-- What was taken of the reader is what the text begins with; the piece has room for some bytes, and no call failed.
use Rattle.std.proofs.Common.{◌-◌, ◌≡◌, ◌<◌, ◌≤◌, length, take, vec_len}
use Rattle.std.specs.Io.KnownBytes.{Consumes}
use Rattle.sc_report.specs.Watched.{device_of, has_failed}
use Rattle.sc_report.proofs.comparing.first_difference.Given as goal

abbrev pub invariant-pieces : goal.invariant-pieces
invariant-pieces g l = record {
  within : l.len ≤ length l.text;
  room : 0 < vec_len l.piece;
  small : vec_len l.piece ≤ 61440;
  consumed : Consumes (g.R.Read.remaining (device_of l.initial.from)) (g.R.Read.remaining (device_of l.from)) (take l.len l.text);
  failed : has_failed l.from ≡ has_failed l.initial.from;
}

abbrev pub decreases-pieces : goal.decreases-pieces
decreases-pieces g l = length l.text - l.len
