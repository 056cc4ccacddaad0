-- The prefix of the text that the calls so far took is with the writer, and no call failed.
use Rattle.std.proofs.Common.{length, ◌-◌, ◌≡◌, ◌≤◌, take}
use Rattle.std.specs.Io.KnownBytes.{Appends}
use Rattle.sc_report.specs.Watched.{device_of, has_failed}
use Rattle.sc_report.proofs.whole.write_whole.Given as goal

abbrev pub invariant-calls : goal.invariant-calls
invariant-calls g l = record {
  within : l.at ≤ length l.text;
  appended : Appends (g.W.Write.contents (device_of l.initial.to)) (g.W.Write.contents (device_of l.to)) (take l.at l.text);
  failed : has_failed l.to ≡ has_failed l.initial.to;
}

abbrev pub decreases-calls : goal.decreases-calls
decreases-calls g l = length l.text - l.at
