use Rattle.std.proofs.Common.{◌≡◌, length}
use Rattle.sc_region.proofs.districts.empty_lists.Given as goal

abbrev pub invariant-loop-i : goal.invariant-loop-i
invariant-loop-i l = length l.lists.items ≡ l._i
