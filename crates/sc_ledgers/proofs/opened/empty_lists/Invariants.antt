use Rattle.std.proofs.Common.{◌≡◌, [], All, length}
use Rattle.sc_ledgers.proofs.opened.empty_lists.Given as goal

abbrev pub invariant-loop : goal.invariant-loop
invariant-loop l = (length l.lists.items ≡ l.counter) × All (λ labels. labels ≡ []) l.lists.items
