use Rattle.std.proofs.Common.{sym, ◌∙◌, ap, subst, Contains, ◌∷◌, length, arith}
use Rattle.std.proofs.lemmas.Bool.{true≢false}
use Rattle.std.proofs.lemmas.List.Sorted.{length_permutation}
use Rattle.sc_seats.specs.Held.{keys_of}
use Rattle.sc_seats.specs.Roll.{RollView, in_order}
use Rattle.sc_seats.proofs.Heaps.{length-in_order, ahead-held, behind-all, added-together, added-ascending, replaced-together, replaced-ascending, replaced-last, refused-last}
use Rattle.sc_seats.proofs.heap.HeapRollRoll.offer_held.Goals as goal

pub invariant_of-self-then-len-get : goal.invariant_of-self-then-len-get
invariant_of-self-then-len-get c =
    let fresh : Contains (in_order (keys_of c.self.inside.held)) c.args.key → ⊥ = subst (λ (h : RollView). Contains h.keys c.args.key → ⊥) (sym c.self.view_is) c.requires in
    record {
      ascending = added-ascending (keys_of c.self.inside.held) (keys_of c.add.new.self) c.args.key c.self.invariant.ascending fresh c.in_ok-add.ensures.added;
      within = omega (arith, length_permutation (c.args.key ∷ keys_of c.self.inside.held) (keys_of c.add.new.self) c.in_ok-add.ensures.added, c.len.ensures, c.if-len-get.true);
      full = λ heaped. absurd (true≢false (sym heaped ∙ c.in_ok-add.ensures.listed));
    }

pub returns-then-len-get-clause-together : goal.returns-then-len-get-clause-together
returns-then-len-get-clause-together c =
    rw (← c.self.view_is) (added-together (keys_of c.self.inside.held) (keys_of c.add.new.self) c.args.key c.in_ok-add.ensures.added)

pub returns-then-len-get-clause-within : goal.returns-then-len-get-clause-within
returns-then-len-get-clause-within c =
    omega (arith, length-in_order (keys_of c.add.new.self), length_permutation (c.args.key ∷ keys_of c.self.inside.held) (keys_of c.add.new.self) c.in_ok-add.ensures.added, c.len.ensures, c.if-len-get.true)

pub returns-then-len-get-clause-ascending : goal.returns-then-len-get-clause-ascending
returns-then-len-get-clause-ascending c =
    let fresh : Contains (in_order (keys_of c.self.inside.held)) c.args.key → ⊥ = subst (λ (h : RollView). Contains h.keys c.args.key → ⊥) (sym c.self.view_is) c.requires in
    added-ascending (keys_of c.self.inside.held) (keys_of c.add.new.self) c.args.key c.self.invariant.ascending fresh c.in_ok-add.ensures.added

pub invariant_of-self-then-is_ahead_of_last : goal.invariant_of-self-then-is_ahead_of_last
invariant_of-self-then-is_ahead_of_last c =
    let fresh : Contains (in_order (keys_of c.self.inside.held)) c.args.key → ⊥ = subst (λ (h : RollView). Contains h.keys c.args.key → ⊥) (sym c.self.view_is) c.requires in
    record {
      ascending = replaced-ascending (keys_of c.self.inside.held) (keys_of c.replace_last.new.self) c.args.key c.replace_last.result c.self.invariant.ascending fresh c.replace_last.ensures.together;
      within = omega (arith, length_permutation (c.args.key ∷ keys_of c.self.inside.held) (c.replace_last.result ∷ keys_of c.replace_last.new.self) c.replace_last.ensures.together, c.self.invariant.within);
      full = λ heaped. omega (arith, length_permutation (c.args.key ∷ keys_of c.self.inside.held) (c.replace_last.result ∷ keys_of c.replace_last.new.self) c.replace_last.ensures.together, c.self.invariant.within, c.len.ensures, c.if-len-get.false);
    }

pub returns-then-is_ahead_of_last-clause-together : goal.returns-then-is_ahead_of_last-clause-together
returns-then-is_ahead_of_last-clause-together c =
    rw (← c.self.view_is) (replaced-together (keys_of c.self.inside.held) (keys_of c.replace_last.new.self) c.args.key c.replace_last.result c.replace_last.ensures.together)

pub returns-then-is_ahead_of_last-clause-last : goal.returns-then-is_ahead_of_last-clause-last
returns-then-is_ahead_of_last-clause-last c =
    let fresh : Contains (in_order (keys_of c.self.inside.held)) c.args.key → ⊥ = subst (λ (h : RollView). Contains h.keys c.args.key → ⊥) (sym c.self.view_is) c.requires in
    let ahead = ahead-held c.last.result (keys_of c.self.inside.held) c.args.key c.last.ensures (sym c.is_ahead_of_last.ensures ∙ c.if-is_ahead_of_last.true) in
    replaced-last (keys_of c.self.inside.held) (keys_of c.replace_last.new.self) c.args.key c.replace_last.result ahead.0 c.self.invariant.ascending fresh c.replace_last.ensures.together c.replace_last.ensures.last ahead.1 ahead.2

pub returns-then-is_ahead_of_last-clause-full : goal.returns-then-is_ahead_of_last-clause-full
returns-then-is_ahead_of_last-clause-full c some =
    rw (← c.self.view_is) (omega (arith, length-in_order (keys_of c.self.inside.held), c.self.invariant.within, c.len.ensures, c.if-len-get.false))

pub returns-then-is_ahead_of_last-clause-within : goal.returns-then-is_ahead_of_last-clause-within
returns-then-is_ahead_of_last-clause-within c =
    omega (arith, length-in_order (keys_of c.replace_last.new.self), length_permutation (c.args.key ∷ keys_of c.self.inside.held) (c.replace_last.result ∷ keys_of c.replace_last.new.self) c.replace_last.ensures.together, c.self.invariant.within)

pub returns-then-is_ahead_of_last-clause-ascending : goal.returns-then-is_ahead_of_last-clause-ascending
returns-then-is_ahead_of_last-clause-ascending c =
    let fresh : Contains (in_order (keys_of c.self.inside.held)) c.args.key → ⊥ = subst (λ (h : RollView). Contains h.keys c.args.key → ⊥) (sym c.self.view_is) c.requires in
    replaced-ascending (keys_of c.self.inside.held) (keys_of c.replace_last.new.self) c.args.key c.replace_last.result c.self.invariant.ascending fresh c.replace_last.ensures.together

pub returns-clause-last : goal.returns-clause-last
returns-clause-last c =
    let fresh : Contains (in_order (keys_of c.self.inside.held)) c.args.key → ⊥ = subst (λ (h : RollView). Contains h.keys c.args.key → ⊥) (sym c.self.view_is) c.requires in
    rw (← c.self.view_is) (refused-last (keys_of c.self.inside.held) c.args.key fresh (behind-all c.last.result (keys_of c.self.inside.held) c.args.key c.last.ensures (sym c.is_ahead_of_last.ensures ∙ c.if-is_ahead_of_last.false)))

pub returns-clause-full : goal.returns-clause-full
returns-clause-full c some =
    rw (← c.self.view_is) (omega (arith, length-in_order (keys_of c.self.inside.held), c.self.invariant.within, c.len.ensures, c.if-len-get.false))

pub returns-in_err-add-clause-within : goal.returns-in_err-add-clause-within
returns-in_err-add-clause-within c =
    omega (arith, length-in_order (keys_of c.add.new.self), ap (λ held. length (keys_of held)) c.in_err-add.ensures.unchanged, c.self.invariant.within)

pub returns-clause-within : goal.returns-clause-within
returns-clause-within c = rw (← c.self.view_is) (omega (arith, length-in_order (keys_of c.self.inside.held), c.self.invariant.within))
