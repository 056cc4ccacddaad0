use Rattle.std.proofs.Common.{◌≡◌, sym, subst, Contains}
use Rattle.std.specs.List.{remove}
use Rattle.sc_ledgers.specs.Known.{labels_with, IsGapIn}
use Rattle.sc_ledgers.proofs.Listing.{gap-only, kept-remove, remove-kept, remove-only}
use Rattle.sc_ledgers.proofs.Placing.{IsFound}
use Rattle.sc_ledgers.proofs.ledger.Ledger.strike.Goals as goal
use Rattle.sc_ledgers.proofs.ledger.Ledger.strike.Goals.{After-remove-in-Ok}

found : (c : After-remove-in-Ok) → IsFound c.self.inside.keys.items c.args.key.now c.in-Ok.at
found c = subst (λ keys. IsFound keys c.args.key.now c.in-Ok.at) c.as_slice.ensures.value c.in-Ok.ensures.found

left : (c : After-remove-in-Ok) → labels_with c.remove.new.self.items c.remove-in-Ok.new.self.items ≡ labels_with (remove c.self.inside.keys.items c.in-Ok.at) (remove c.self.inside.turns.items c.in-Ok.at)
left c t = labels_with (c.remove.ensures.items t) (c.remove-in-Ok.ensures.items t)

pub invariant_of-self : goal.invariant_of-self
invariant_of-self c =
    rw (c.remove.ensures.items, c.remove-in-Ok.ensures.items) (kept-remove c.self.inside.keys.items c.self.inside.turns.items c.self.invariant c.in-Ok.at c.args.key.now (found c))

pub returns-in-Ok-clause-kept : goal.returns-in-Ok-clause-kept
returns-in-Ok-clause-kept c label here other =
    subst (λ labels. Contains labels label) (sym (left c))
    (remove-kept c.self.inside.keys.items c.self.inside.turns.items c.self.invariant c.in-Ok.at c.args.key.now (found c) label (subst (λ labels. Contains labels label) (sym c.self.view_is) here) other)

pub returns-in-Ok-clause-only : goal.returns-in-Ok-clause-only
returns-in-Ok-clause-only c label here =
    let (was, other) = remove-only c.self.inside.keys.items c.self.inside.turns.items c.self.invariant c.in-Ok.at c.args.key.now (found c) label (subst (λ labels. Contains labels label) (left c) here) in
    (subst (λ labels. Contains labels label) c.self.view_is was, other)

pub returns-in_default-clause-only : goal.returns-in_default-clause-only
returns-in_default-clause-only c label here =
    let gap = subst (λ keys. IsGapIn keys c.args.key.now c.in_default.field-0) c.as_slice.ensures.value c.in_default.ensures.absent in
    (here, gap-only c.self.inside.keys.items c.self.inside.turns.items c.in_default.field-0 c.args.key.now label gap (subst (λ labels. Contains labels label) (sym c.self.view_is) here))
