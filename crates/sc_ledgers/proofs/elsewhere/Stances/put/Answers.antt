use Rattle.std.proofs.Common.{◌<◌, refl, ap, sym, subst, ◌∙◌, length, get_or, set}
use Rattle.sc_ledgers.specs.Elsewhere.{HasPut, IsAbsent}
use Rattle.sc_ledgers.proofs.Stancing.{apart-push, apart-set, put-push, put-set}
use Rattle.sc_ledgers.proofs.elsewhere.Stances.put.Goals as goal

pub invariant_of-self : goal.invariant_of-self
invariant_of-self c =
    apart-set c.self.inside.list.items c.in-Some.at c.args.stance c.self.invariant (subst (λ l. c.in-Some.at < length l) c.as_slice.ensures.value c.in-Some.ensures.there)
    (λ d. ap (λ l. (get_or l c.in-Some.at d).student) (sym c.as_slice.ensures.value) ∙ c.in-Some.ensures.theirs d)

pub invariant_of-self-in-Continue-1 : goal.invariant_of-self-in-Continue-1
invariant_of-self-in-Continue-1 c =
    rw c.in_ok-push-in-None.ensures.items
    (apart-push c.self.inside.list.items c.args.stance c.self.invariant (subst (λ l. IsAbsent l c.args.stance.student) c.as_slice.ensures.value (c.in-None.ensures.absent refl)))

pub returns-in-Some-clause-put : goal.returns-in-Some-clause-put
returns-in-Some-clause-put c =
    subst (λ l. HasPut l (set c.self.inside.list.items c.in-Some.at c.args.stance) c.args.stance) c.self.view_is
    (put-set c.self.inside.list.items c.in-Some.at c.args.stance c.self.invariant (subst (λ l. c.in-Some.at < length l) c.as_slice.ensures.value c.in-Some.ensures.there)
    (λ d. ap (λ l. (get_or l c.in-Some.at d).student) (sym c.as_slice.ensures.value) ∙ c.in-Some.ensures.theirs d))

pub returns-in_ok-push-in-None-clause-put : goal.returns-in_ok-push-in-None-clause-put
returns-in_ok-push-in-None-clause-put c =
    subst (λ l. HasPut l c.push.new.self.items c.args.stance) c.self.view_is
    (rw c.in_ok-push-in-None.ensures.items
    (put-push c.self.inside.list.items c.args.stance (subst (λ l. IsAbsent l c.args.stance.student) c.as_slice.ensures.value (c.in-None.ensures.absent refl))))
