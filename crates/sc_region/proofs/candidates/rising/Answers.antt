use Rattle.std.proofs.Common.{◌≡◌, Contains, subst, sym}
use Rattle.std.specs.List.{dedup}
use Rattle.std.specs.Prelude.{nat_eq}
use Rattle.std.proofs.lemmas.List.Filters.{dedup_is}
use Rattle.std.proofs.lemmas.List.Kept.{Contains-dedup_nat, Contains-from_dedup}
use Rattle.std.proofs.lemmas.List.Sorted.{Contains-permutation, IsPermutation-sym}
use Rattle.std.proofs.lemmas.Map.Keys.{IsStrictlyIncreasing-dedup}
use Rattle.sc_region.proofs.candidates.rising.Goals as goal

pub returns-clause-rising : goal.returns-clause-rising
returns-clause-rising c = rw (dedup_is _ _ _ c.dedup.ensures.filtered) (IsStrictlyIncreasing-dedup _ c.in_ok-sort.ensures.sorted)

pub returns-clause-same : goal.returns-clause-same
returns-clause-same c p =
    let old = c.args.positions.items in
    let sorted = c.sort.new.self.items in
    let new = c.dedup.new.self.items in
    let is : new ≡ dedup nat_eq sorted = dedup_is _ _ _ c.dedup.ensures.filtered in (
      λ among. Contains-permutation sorted old p (IsPermutation-sym old sorted c.sort.ensures.permutation) (Contains-from_dedup nat_eq sorted p (subst (λ xs. Contains xs p) is among)),
      λ among. subst (λ xs. Contains xs p) (sym is) (Contains-dedup_nat sorted p (Contains-permutation old sorted p c.sort.ensures.permutation among)),
    )
