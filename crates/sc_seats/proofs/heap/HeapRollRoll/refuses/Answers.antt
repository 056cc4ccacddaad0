use Rattle.std.proofs.Common.{◌≡◌, refl, ap, sym, ◌∙◌, subst, Bool, true, false, not, Contains, arith}
use Rattle.std.specs.Option.{option_map_or}
use Rattle.std.proofs.lemmas.Bool.{false≢true}
use Rattle.std.proofs.lemmas.Bool.Decides.{nat_tests}
use Rattle.sc_papers.specs.Key.{is_before}
use Rattle.sc_seats.specs.Held.{keys_of}
use Rattle.sc_seats.specs.Roll.{RollView, in_order}
use Rattle.sc_seats.proofs.Heaps.{length-in_order, behind-all, behind-last, refused-last}
use Rattle.sc_seats.proofs.heap.HeapRollRoll.refuses.Goals as goal

off : (b : Bool) → not b ≡ true → b ≡ false
off true e = absurd (false≢true e)
off false e = refl

pub returns-then-len-get : goal.returns-then-len-get
returns-then-len-get c =
    let fresh : Contains (in_order (keys_of c.self.inside.held)) c.args.key.now → ⊥ = subst (λ (h : RollView). Contains h.keys c.args.key.now → ⊥) (sym c.self.view_is) c.requires in
    rw (← c.self.view_is) (
      λ refused. record {
        full = omega (arith, length-in_order (keys_of c.self.inside.held), c.self.invariant.within, c.len.ensures, c.get.ensures.value, c.if-len-get.true);
        behind = refused-last (keys_of c.self.inside.held) c.args.key.now fresh
            (behind-all c.last.result (keys_of c.self.inside.held) c.args.key.now c.last.ensures (ap (λ key. option_map_or (is_before key) c.last.result false) (sym c.of.ensures) ∙ sym c.is_ahead_of_last.ensures ∙ off c.is_ahead_of_last.result refused));
      },
      λ refuses. ap not (c.is_ahead_of_last.ensures ∙ ap (λ key. option_map_or (is_before key) c.last.result false) c.of.ensures ∙ behind-last c.last.result (keys_of c.self.inside.held) c.args.key.now c.last.ensures refuses.behind),
    )

pub returns-else-len-get : goal.returns-else-len-get
returns-else-len-get c =
    rw (← c.self.view_is) (
      λ refused. absurd (grind (arith, nat_tests)),
      λ refuses. absurd (omega (arith, length-in_order (keys_of c.self.inside.held), refuses.full, c.len.ensures, c.get.ensures.value, c.if-len-get.false)),
    )
