use Rattle.std.proofs.Common.{◌<◌, refl, ap, sym, subst, ◌∙◌, length, get_or, set}
use Rattle.sc_ledgers.specs.Elsewhere.{HasMoved, IsAbsent}
use Rattle.sc_ledgers.specs.declared.elsewhere.Stance.{Stance}
use Rattle.sc_ledgers.proofs.Stancing.{apart-push, apart-set, moved-push, moved-set, other-alike}
use Rattle.sc_ledgers.proofs.elsewhere.Stances.move_on.Goals as goal

pub invariant_of-self : goal.invariant_of-self
invariant_of-self c =
    let theirs = λ (d : Stance). ap (λ l. (get_or l c.in-Some.at d).student) (sym c.as_slice.ensures.value) ∙ c.in-Some.ensures.theirs d in
    let low = subst (λ l. c.in-Some.at < length l) c.as_slice.ensures.value c.in-Some.ensures.there in
    apart-set c.self.inside.list.items c.in-Some.at c.moved.result c.self.invariant low
    (λ d. theirs d ∙ sym (c.moved.ensures.student ∙ ap (λ s. s.student) c.index.ensures ∙ theirs c.index.result.now))

pub invariant_of-self-in-Continue-1 : goal.invariant_of-self-in-Continue-1
invariant_of-self-in-Continue-1 c =
    rw c.in_ok-push-in-None.ensures.items
    (apart-push c.self.inside.list.items c.moved-in-None.result c.self.invariant
    (subst (λ j. IsAbsent c.self.inside.list.items j) (sym (c.moved-in-None.ensures.student ∙ c.alike-stance.ensures.student))
    (subst (λ l. IsAbsent l c.args.entry.now.student) c.as_slice.ensures.value (c.in-None.ensures.absent refl))))

pub returns-in-Some-clause-moved : goal.returns-in-Some-clause-moved
returns-in-Some-clause-moved c =
    let theirs = λ (d : Stance). ap (λ l. (get_or l c.in-Some.at d).student) (sym c.as_slice.ensures.value) ∙ c.in-Some.ensures.theirs d in
    let low = subst (λ l. c.in-Some.at < length l) c.as_slice.ensures.value c.in-Some.ensures.there in
    subst (λ l. HasMoved l (set c.self.inside.list.items c.in-Some.at c.moved.result) c.args.run c.args.entry.now c.args.next) c.self.view_is
    (moved-set c.self.inside.list.items c.in-Some.at c.moved.result c.index.result.now c.args.run c.args.entry.now c.args.next c.self.invariant low theirs c.index.ensures
    (c.moved.ensures.student ∙ ap (λ s. s.student) c.index.ensures ∙ theirs c.index.result.now) c.moved.ensures.moved c.moved.ensures.stays)

pub returns-in_ok-push-in-None-clause-moved : goal.returns-in_ok-push-in-None-clause-moved
returns-in_ok-push-in-None-clause-moved c =
    subst (λ l. HasMoved l c.push.new.self.items c.args.run c.args.entry.now c.args.next) c.self.view_is
    (rw c.in_ok-push-in-None.ensures.items
    (moved-push c.self.inside.list.items c.moved-in-None.result c.args.run c.args.entry.now c.args.next
    (subst (λ l. IsAbsent l c.args.entry.now.student) c.as_slice.ensures.value (c.in-None.ensures.absent refl))
    (c.moved-in-None.ensures.student ∙ c.alike-stance.ensures.student) c.moved-in-None.ensures.moved
    (c.moved-in-None.ensures.stays ∙ other-alike c.args.run c.alike-stance.result c.args.entry.now.school c.alike-stance.ensures.old c.alike-stance.ensures.new)))
