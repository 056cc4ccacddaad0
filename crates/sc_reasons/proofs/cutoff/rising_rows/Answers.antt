use Rattle.std.proofs.Common.{rules, ◌≡◌, ◌++◌, length, take, drop, sym, ◌∙◌}
use Rattle.std.proofs.Math.Seq.{take-append_seam}
use Rattle.std.proofs.lemmas.List.Sorted.{IsNonDecreasingBy-from_sort_by_key}
use Rattle.sc_reasons.specs.declared.cutoff.CutoffRow.{CutoffRow}
use Rattle.sc_reasons.proofs.CutoffLemmas.{rising-rows}
use Rattle.sc_reasons.proofs.cutoff.rising_rows.Goals as goal

pub returns : goal.returns
returns c m a are =
    let sorted = c.sort_unstable_by_key.new.self in
    let lent = c.as_mut_slice.ensures.value in
    let rest = drop (length sorted) c.in_ok-rising.rising.items in
    let whole : take c.in_ok-rising.rising.len (sorted ++ rest) ≡ sorted =
    rw (sym (c.sort_unstable_by_key.ensures.len ∙ c.as_mut_slice.ensures.len)) (take-append_seam sorted rest) in
    whole ∙ rising-rows m a c.in_ok-rising.rising.items sorted (c.in_ok-rising.ensures.items ∙ are)
    (rw (← lent) c.sort_unstable_by_key.ensures.permutation)
    (IsNonDecreasingBy-from_sort_by_key (λ (row : CutoffRow). row.school) sorted c.sort_unstable_by_key.ensures.sorted (λ a r q k. search rules))
