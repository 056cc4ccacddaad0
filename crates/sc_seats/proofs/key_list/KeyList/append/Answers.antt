use Rattle.std.proofs.Common.{Some, List, subst, sym, ap, ◌∙◌}
use Rattle.sc_papers.specs.Key.{is_before}
use Rattle.sc_papers.specs.declared.key.Key.{Key}
use Rattle.sc_papers.specs.LastKey.{IsLastOf}
use Rattle.sc_seats.proofs.Heaps.{last-renewed, last-stays}
use Rattle.sc_seats.proofs.key_list.KeyList.append.Goals as goal

pub invariant_of-self-then-is_ahead_of : goal.invariant_of-self-then-is_ahead_of
invariant_of-self-then-is_ahead_of c =
    rw c.copy-newest.ensures (subst (λ (keys : List Key). IsLastOf (Some c.args.key) keys) (sym c.in_ok-push.ensures.items)
    (last-renewed c.self.inside.keys.items c.args.key c.self.inside.last c.self.invariant (ap (is_before c.self.inside.last) (sym c.copy-newest.ensures) ∙ sym c.is_ahead_of.ensures ∙ c.if-is_ahead_of.true)))

pub invariant_of-self-else-is_ahead_of : goal.invariant_of-self-else-is_ahead_of
invariant_of-self-else-is_ahead_of c =
    subst (λ (keys : List Key). IsLastOf (Some c.self.inside.last) keys) (sym c.in_ok-push.ensures.items) (last-stays c.self.inside.keys.items c.args.key c.self.inside.last c.self.invariant (ap (is_before c.self.inside.last) (sym c.copy-newest.ensures) ∙ sym c.is_ahead_of.ensures ∙ c.if-is_ahead_of.false))
