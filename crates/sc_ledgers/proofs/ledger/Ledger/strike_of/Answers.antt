use Rattle.std.proofs.Common.{◌≡◌, ◌∙◌, inl, inr, get_or, sym, subst, arith, Contains}
use Rattle.std.proofs.lemmas.List.{get_or_default}
use Rattle.sc_ledgers.specs.Known.{IsGapIn}
use Rattle.sc_ledgers.specs.declared.ledger.TheConstants.{NEVER}
use Rattle.sc_ledgers.proofs.Listing.{gap-only, its-turn, set-kept, set-only}
use Rattle.sc_ledgers.proofs.Placing.{IsFound}
use Rattle.sc_ledgers.proofs.ledger.Ledger.strike_of.Goals as goal
use Rattle.sc_ledgers.proofs.ledger.Ledger.strike_of.Goals.{After-index}

found : (c : After-index) → IsFound c.self.inside.keys.items c.args.key.now c.in-Ok.at
found c = subst (λ keys. IsFound keys c.args.key.now c.in-Ok.at) c.as_slice.ensures.value c.in-Ok.ensures.found

-- the turn that was read there
read : (c : After-index) → get_or c.self.inside.turns.items c.in-Ok.at 0 ≡ c.index.result.now
read c = get_or_default c.self.inside.turns.items c.in-Ok.at 0 c.index.result.now (omega (arith, (found c).0, c.self.invariant.one_each)) ∙ sym c.index.ensures

pub returns-then-index-turn-clause-kept : goal.returns-then-index-turn-clause-kept
returns-then-index-turn-clause-kept c label here other =
    set-kept c.self.inside.keys.items c.self.inside.turns.items c.self.invariant c.in-Ok.at c.args.key.now (found (goal.at.returns-then-index-turn-clause-kept c).After-index) NEVER label
    (subst (λ labels. Contains labels label) (sym c.self.view_is) here)
    (λ key turn. other key (turn ∙ read (goal.at.returns-then-index-turn-clause-kept c).After-index ∙ c.if-index-turn.true))

pub returns-then-index-turn-clause-only : goal.returns-then-index-turn-clause-only
returns-then-index-turn-clause-only c label here =
    elim (set-only c.self.inside.keys.items c.self.inside.turns.items c.self.invariant c.in-Ok.at c.args.key.now (found (goal.at.returns-then-index-turn-clause-only c).After-index) NEVER label here) [
      | inl (was, other) ↦ (subst (λ labels. Contains labels label) c.self.view_is was, λ key turn. other key)
      | inr (is, held) ↦ absurd (omega (arith, held))
    ]

pub returns-else-index-turn-clause-only : goal.returns-else-index-turn-clause-only
returns-else-index-turn-clause-only c label here =
    let step = (goal.at.returns-else-index-turn-clause-only c).After-index in (
      here,
      λ key turn. c.if-index-turn.false
          (sym (read step) ∙ sym (its-turn c.self.inside.keys.items c.self.inside.turns.items c.self.invariant c.in-Ok.at c.args.key.now (found step) label (subst (λ labels. Contains labels label) (sym c.self.view_is) here) key) ∙ turn),
    )

pub returns-in_default-clause-only : goal.returns-in_default-clause-only
returns-in_default-clause-only c label here =
    let gap = subst (λ keys. IsGapIn keys c.args.key.now c.in_default.field-0) c.as_slice.ensures.value c.in_default.ensures.absent in
    (here, λ key turn. gap-only c.self.inside.keys.items c.self.inside.turns.items c.in_default.field-0 c.args.key.now label gap (subst (λ labels. Contains labels label) (sym c.self.view_is) here) key)
