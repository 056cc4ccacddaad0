use Rattle.std.proofs.Common.{◌≡◌, ◌<◌, ℕ, List, length, ap, sym, subst, ◌∙◌, Contains, Option, Ok, Some, None, refl, arith}
use Rattle.std.specs.List.{IsDistinct}
use Rattle.std.specs.Prelude.{nat_eq, slice_index}
use Rattle.std.proofs.lemmas.List.{get_or_read}
use Rattle.std.proofs.lemmas.List.Sorted.{Contains-permutation, IsPermutation-sym}
use Rattle.sc_papers.specs.Market.{Market, schools_of}
use Rattle.sc_papers.specs.Verdict.{unless_refused, verdict}
use Rattle.sc_papers.specs.WellFormed.{WellFormed}
use Rattle.sc_papers.specs.declared.amendment.Amendment.{Amendment}
use Rattle.sc_papers.specs.declared.amendment.Refusal.{Refusal}
use Rattle.sc_region.specs.Groups.{members_beside, position_of, start_of}
use Rattle.sc_region.proofs.Changes.{start-known}
use Rattle.sc_region.proofs.Joining.{position-within}
use Rattle.sc_region.proofs.Reaching.{region-differs, region-exact, region_members}
use Rattle.sc_region.proofs.Having.{all-joined}
use Rattle.sc_region.proofs.reach.region.Goals as goal

allowed : (o : Option Refusal) → unless_refused o ≡ Ok tt → o ≡ None
allowed None e = refl
allowed (Some r) e = cc

-- the school to begin with has a group
start-within : (m : Market) (a : Amendment) (at : ℕ) (groups : List ℕ) → WellFormed m → Ok tt ≡ unless_refused (verdict m a) → at ≡ position_of m (start_of m a) → length groups ≡ length (schools_of m) → at < length groups
start-within m a at groups well passes is one_each =
    omega (arith, is, one_each, (position-within m (start_of m a) (start-known m a well (allowed (verdict m a) (sym passes)))).0)

pub index-requires : goal.index-requires
index-requires c =
    omega (arith, start-within c.args.papers.now c.args.amendment.now c.widen-start.result c.widen-start.new.groups.items c.students_len.ensures.well_formed (sym c.in_ok-check.was ∙ c.check.ensures) c.widen-start.ensures.start c.widen-start.ensures.one_each, c.widen-start.new.groups.ok.0)

pub region_members-requires-clause-group : goal.region_members-requires-clause-group
region_members-requires-clause-group c =
    let numbers = c.widen-start.new.groups.items in
    let low : c.widen-start.result < length numbers =
    start-within c.args.papers.now c.args.amendment.now c.widen-start.result numbers c.students_len.ensures.well_formed (sym c.in_ok-check.was ∙ c.check.ensures) c.widen-start.ensures.start c.widen-start.ensures.one_each in
    get_or_read numbers c.widen-start.result c.index.result.now low c.index.ensures 0
    ∙ (λ t. slice_index (sym c.as_slice.ensures.value t) (c.widen-start.ensures.start t))

pub by_number-region-requires : goal.by_number-region-requires
unfolding region_members
by_number-region-requires c =
    let m = c.args.papers.now in
    let a = c.args.amendment.now in
    let are = c.in_ok-members.ensures ∙ ap (members_beside m a) (c.as_slice.ensures.value ∙ all-joined m a _ _ c.widen-start.ensures.widened (c.into_numbers-groups.ensures ∙ c.in_ok-groups_of.ensures.joined)) in
    subst (IsDistinct nat_eq) (sym are)
    (region-differs m a c.students_len.ensures.well_formed (allowed (verdict m a) (sym c.check.ensures ∙ c.in_ok-check.was)))

pub returns-clause-region : goal.returns-clause-region
unfolding region_members
returns-clause-region c i =
    let m = c.args.papers.now in
    let a = c.args.amendment.now in
    let members = c.in_ok-members.members.items in
    let are = c.in_ok-members.ensures ∙ ap (members_beside m a) (c.as_slice.ensures.value ∙ all-joined m a _ _ c.widen-start.ensures.widened (c.into_numbers-groups.ensures ∙ c.in_ok-groups_of.ensures.joined)) in
    let region = c.by_number-region.result in
    let exact = region-exact m a c.students_len.ensures.well_formed (allowed (verdict m a) (sym c.check.ensures ∙ c.in_ok-check.was)) i in (
      λ among. exact.0 (subst (λ xs. Contains xs i) are (Contains-permutation region members i (IsPermutation-sym members region c.by_number-region.ensures) among)),
      λ within. Contains-permutation members region i c.by_number-region.ensures (subst (λ xs. Contains xs i) (sym are) (exact.1 within)),
    )
