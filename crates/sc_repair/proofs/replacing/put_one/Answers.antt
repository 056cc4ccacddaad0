use Rattle.std.proofs.Common.{◌≡◌, ap, sym, ◌∙◌, ◌∷◌, [], None, nat_eq, cond}
use Rattle.sc_papers.specs.Assignment.{assigned}
use Rattle.sc_papers.proofs.Assigning.{assigned-with_place, with_place-new}
use Rattle.sc_papers.proofs.Entering.{is_some-false}
use Rattle.sc_repair.proofs.Replaced.{given-one}
use Rattle.sc_repair.proofs.replacing.put_one.Goals as goal

pub returns-clause-grown : goal.returns-clause-grown
returns-clause-grown c =
    let i = c.args.stance.now.student in
    let old = c.args.places.now in
    let unplaced : assigned old i ≡ None = sym c.get_near.ensures ∙ is_some-false c.get_near.result (sym c.is_some.ensures ∙ c.if-is_some.false) in
    ((i, c.in-Some.school) ∷ [], c.in_ok-put.ensures.put ∙ with_place-new old i c.in-Some.school unplaced)

pub returns-clause-given : goal.returns-clause-given
returns-clause-given c =
    let i = c.args.stance.now.student in
    let old = c.args.places.now in
    let unplaced : assigned old i ≡ None = sym c.get_near.ensures ∙ is_some-false c.get_near.result (sym c.is_some.ensures ∙ c.if-is_some.false) in
    given-one c.args.stance.now (assigned old) (assigned c.put.new.self) unplaced
    (λ j. ap (λ pairs. assigned pairs j) c.in_ok-put.ensures.put ∙ assigned-with_place old i c.in-Some.school j ∙ ap (λ o. cond (nat_eq j i) o (assigned old j)) (sym c.in-Some.is))
