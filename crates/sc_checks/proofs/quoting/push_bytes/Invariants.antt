use Rattle.std.proofs.Common.{◌≡◌, ◌++◌, flat_map, take}
use Rattle.sc_checks.specs.Quoting.{byte_text}
use Rattle.sc_checks.proofs.quoting.push_bytes.Given as goal

abbrev pub invariant-loop-byte : goal.invariant-loop-byte
invariant-loop-byte l = l.text.items ≡ l.initial.text.items ++ flat_map byte_text (take l.byte-index l.bytes)
