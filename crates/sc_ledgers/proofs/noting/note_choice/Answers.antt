use Rattle.std.proofs.Common.{◌++◌, ◌∷◌, [], ℕ, sym, subst, ap, ◌∙◌, inl, slice_get}
use Rattle.std.proofs.lemmas.Option.{none-some, same_Some}
use Rattle.sc_papers.specs.Key.{key_of}
use Rattle.sc_papers.specs.declared.key.Key.{Key}
use Rattle.sc_ledgers.specs.Opening.{RejectsIn}
use Rattle.sc_papers.specs.Market.{choices_of, student_at}
use Rattle.sc_ledgers.proofs.Opening.{notes-choice}
use Rattle.sc_ledgers.proofs.Proposing.{ledger-here}
use Rattle.sc_ledgers.proofs.noting.note_choice.Goals as goal

pub returns-in_default-clause-noted : goal.returns-in_default-clause-noted
returns-in_default-clause-noted c = record {
  kept = λ s label here. here;
  there = λ s is fresh. absurd (none-some s (c.in_default.ensures.school ∙ is));
  only = λ s label here. inl here;
}

pub returns-clause-noted : goal.returns-clause-noted
returns-clause-noted c =
    let m = c.args.papers.now in
    let i : ℕ = student_at m c.args.hand.position in
    let s : ℕ = c.in-Some.proposal.school in
    notes-choice m c.args.lists.now.items c.args.turn i s c.in-Some.proposal.position (slice_get (choices_of m i) c.args.hand.rank) c.args.segment.now c.index_mut.result.now c.push.new.self (sym c.in-Some.ensures.school) c.in-Some.ensures.position c.requires.one_each
    (ledger-here m c.args.lists.now.items s c.in-Some.proposal.position c.index_mut.result.now c.in-Some.ensures.position c.requires.one_each c.index_mut.ensures.value)
    (c.in_ok-push.ensures ∙ ap (λ key. c.index_mut.result.now ++ record { key = key; turn = c.args.turn } ∷ []) c.in-Some.ensures.key)

-- whoever is refused at once is not noted
pub returns-then-is_at-clause-noted : goal.returns-then-is_at-clause-noted
unfolding key_of
returns-then-is_at-clause-noted c = record {
  kept = λ s label here. here;
  there = λ s is fresh. absurd (fresh (subst (λ t. RejectsIn c.args.segment.now (student_at c.args.papers.now c.args.hand.position) t) (same_Some c.in-Some.proposal.school s (c.in-Some.ensures.school ∙ is))
      (subst (λ j. RejectsIn c.args.segment.now j c.in-Some.proposal.school) (ap (λ (key : Key). key.student) c.in-Some.ensures.key) (c.is_at.ensures c.if-is_at.true))));
  only = λ s label here. inl here;
}
