-- Each position was counted as often as it stands among those so far.
use Rattle.std.proofs.Common.{◌≡◌, ℕ, ◌+◌, ◌<◌, nat_eq, count_by, get_or, length, take}
use Rattle.sc_notices.proofs.listings.count_choices.Given as goal

abbrev pub invariant-loop-choice : goal.invariant-loop-choice
invariant-loop-choice l = record {
  same : length l.counts ≡ length l.initial.counts;
  counted : (at : ℕ) → at < length l.initial.counts → get_or l.counts at 0 ≡ get_or l.initial.counts at 0 + count_by (λ c. nat_eq at c.position) (take l.choice-index l.choices);
}
