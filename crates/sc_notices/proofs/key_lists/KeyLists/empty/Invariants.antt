-- So many lists are empty.
use Rattle.std.proofs.Common.{◌≡◌, [], replicate}
use Rattle.sc_notices.specs.KeyLists.{keys_in}
use Rattle.sc_notices.proofs.key_lists.KeyLists.empty.Given as goal

abbrev pub invariant-loop-added : goal.invariant-loop-added
invariant-loop-added l = keys_in l.lists.items ≡ replicate l._added []
