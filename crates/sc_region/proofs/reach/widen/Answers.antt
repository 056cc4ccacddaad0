use Rattle.std.proofs.Common.{◌∙◌, inl, inr, refl, subst, Contains}
use Rattle.sc_region.specs.Groups.{joined_list, widened}
use Rattle.sc_region.proofs.Changes.{enter-may, new-known}
use Rattle.sc_region.proofs.Joining.{first-read}
use Rattle.sc_region.proofs.reach.widen.Goals as goal

pub join_list-requires-clause-known : goal.join_list-requires-clause-known
join_list-requires-clause-known c s among =
    new-known c.args.papers.now c.args.amendment.now c.requires.allowed s (rw c.in-Enter.is (subst (λ list. Contains list s) c.as_slice-in-Enter.ensures among))

pub join_list-requires-in-Rerank-clause-known : goal.join_list-requires-in-Rerank-clause-known
join_list-requires-in-Rerank-clause-known c s among =
    new-known c.args.papers.now c.args.amendment.now c.requires.allowed s (rw c.in-Rerank.is (subst (λ list. Contains list s) c.as_slice-in-Rerank.ensures among))

pub returns-in-Enter-clause-widened : goal.returns-in-Enter-clause-widened
unfolding widened
returns-in-Enter-clause-widened c =
    let m = c.args.papers.now in
    let may = enter-may m c.in-Enter.student c.in-Enter.zone c.in-Enter.siblings c.in-Enter.choices c.in-Enter.continuing (rw c.in-Enter.is at c.requires.allowed) in
    let first = first-read c.as_slice.result.now c.in-Enter.choices c.index-as_slice-0.result may.lists.choices_some c.index-as_slice-0.is c.as_slice.ensures in
    rw c.in-Enter.is
    (c.join_list.ensures.joined ∙ (λ t. joined_list m (first t) c.args.groups.now.items (c.as_slice-in-Enter.ensures t)))

pub returns-in-Rerank-clause-widened : goal.returns-in-Rerank-clause-widened
unfolding widened
returns-in-Rerank-clause-widened c =
    rw c.in-Rerank.is
    (c.join_list-in-Rerank.ensures.joined ∙ (λ t. joined_list c.args.papers.now (c.first_choice-first.ensures.first t) c.args.groups.now.items (c.as_slice-in-Rerank.ensures t)))

pub returns-in-Add-clause-widened : goal.returns-in-Add-clause-widened
unfolding widened joined_list
returns-in-Add-clause-widened c = elim c.in-Add.is [
  | inl (count, is) ↦ rw is refl
  | inr (count, is) ↦ rw is refl
]

pub returns-in-Withdraw-clause-widened : goal.returns-in-Withdraw-clause-widened
unfolding widened joined_list
returns-in-Withdraw-clause-widened c = elim c.in-Withdraw.is [
  | inl is ↦ rw is refl
  | inr (zone, siblings, continuing, is) ↦ rw is refl
]
