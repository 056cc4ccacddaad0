use Rattle.std.proofs.Common.{◌≡◌, ◌∙◌, inl, inr, ap, sym, subst, Contains}
use Rattle.std.specs.List.{insert}
use Rattle.std.proofs.lemmas.Bool.{cond-true}
use Rattle.std.specs.Result.{is_ok}
use Rattle.sc_ledgers.specs.Known.{labels_with, IsGapIn}
use Rattle.sc_ledgers.proofs.Listing.{insert-kept, insert-only, insert-there, kept-insert, set-kept, set-only, set-there}
use Rattle.sc_ledgers.proofs.Placing.{IsFound}
use Rattle.sc_ledgers.proofs.ledger.Ledger.note.Goals as goal
use Rattle.sc_ledgers.proofs.ledger.Ledger.note.Goals.{Else-is_err, In-Ok}

-- the place of the key, or its gap
found : (c : In-Ok) → IsFound c.self.inside.keys.items c.args.key c.in-Ok.at
found c = subst (λ keys. IsFound keys c.args.key c.in-Ok.at) c.as_slice.ensures.value c.in-Ok.ensures.found

gap : (c : Else-is_err) → IsGapIn c.self.inside.keys.items c.args.key c.in-Err.at
gap c = subst (λ keys. IsGapIn keys c.args.key c.in-Err.at) c.as_slice.ensures.value c.in-Err.ensures.absent

-- what was put in there
keys : (c : Else-is_err) → c.insert.new.self.items ≡ insert c.self.inside.keys.items c.in-Err.at c.args.key
keys c = c.in_ok-insert-in-Err.ensures.items

turns : (c : Else-is_err) → c.insert-in-Err.new.self.items ≡ insert c.self.inside.turns.items c.in-Err.at c.args.turn
turns c =
    c.insert-in-Err.ensures.items
    ∙ cond-true (is_ok c.insert-in-Err.result) (insert c.reserve.new.self.items c.in-Err.at c.args.turn) c.reserve.new.self.items c.if-is_err.ensures.negation
    ∙ ap (λ ts. insert ts c.in-Err.at c.args.turn) c.in_ok-reserve-in-Err.ensures.items

now : (c : Else-is_err) → labels_with c.insert.new.self.items c.insert-in-Err.new.self.items ≡ labels_with (insert c.self.inside.keys.items c.in-Err.at c.args.key) (insert c.self.inside.turns.items c.in-Err.at c.args.turn)
now c t = labels_with (keys c t) (turns c t)

pub invariant_of-self-else-is_err : goal.invariant_of-self-else-is_err
invariant_of-self-else-is_err c = rw (keys c, turns c) (kept-insert c.self.inside.keys.items c.self.inside.turns.items c.self.invariant c.in-Err.at c.args.key c.args.turn (gap c))

pub returns-in-Ok-clause-there : goal.returns-in-Ok-clause-there
returns-in-Ok-clause-there c =
    set-there c.self.inside.keys.items c.self.inside.turns.items c.self.invariant c.in-Ok.at c.args.key (found (goal.at.returns-in-Ok-clause-there c).In-Ok) c.args.turn c.requires

pub returns-in-Ok-clause-kept : goal.returns-in-Ok-clause-kept
returns-in-Ok-clause-kept c label here other =
    set-kept c.self.inside.keys.items c.self.inside.turns.items c.self.invariant c.in-Ok.at c.args.key (found (goal.at.returns-in-Ok-clause-kept c).In-Ok) c.args.turn label
    (subst (λ labels. Contains labels label) (sym c.self.view_is) here) (λ key turn. other key)

pub returns-in-Ok-clause-only : goal.returns-in-Ok-clause-only
returns-in-Ok-clause-only c label here =
    elim (set-only c.self.inside.keys.items c.self.inside.turns.items c.self.invariant c.in-Ok.at c.args.key (found (goal.at.returns-in-Ok-clause-only c).In-Ok) c.args.turn label here) [
      | inl (was, other) ↦ inl (subst (λ labels. Contains labels label) c.self.view_is was)
      | inr (it, held) ↦ inr it
    ]

pub returns-else-is_err-clause-there : goal.returns-else-is_err-clause-there
returns-else-is_err-clause-there c =
    subst (λ labels. Contains labels (record { key = c.args.key; turn = c.args.turn })) (sym (now c))
    (insert-there c.self.inside.keys.items c.self.inside.turns.items c.self.invariant c.in-Err.at c.args.key c.args.turn (gap c) c.requires)

pub returns-else-is_err-clause-kept : goal.returns-else-is_err-clause-kept
returns-else-is_err-clause-kept c label here other =
    subst (λ labels. Contains labels label) (sym (now c))
    (insert-kept c.self.inside.keys.items c.self.inside.turns.items c.self.invariant c.in-Err.at c.args.key c.args.turn (gap c) label (subst (λ labels. Contains labels label) (sym c.self.view_is) here))

pub returns-else-is_err-clause-only : goal.returns-else-is_err-clause-only
returns-else-is_err-clause-only c label here =
    elim (insert-only c.self.inside.keys.items c.self.inside.turns.items c.self.invariant c.in-Err.at c.args.key c.args.turn (gap c) label (subst (λ labels. Contains labels label) (now c) here)) [
      | inl was ↦ inl (subst (λ labels. Contains labels label) c.self.view_is was)
      | inr it ↦ inr it
    ]
