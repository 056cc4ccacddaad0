use Rattle.std.proofs.Common.{◌≡◌, ◌∷◌, [], All, Some, ap, get_or, inl, inr, slice_get, subst, sym, ◌∙◌}
use Rattle.std.proofs.lemmas.Bool.{cases_Bool}
use Rattle.std.proofs.lemmas.List.{get_or-map}
use Rattle.std.proofs.lemmas.List.Elements.{All-cons, All-nil}
use Rattle.std.proofs.lemmas.Option.{get_or_from_slice_get, same_Some, slice_get_within}
use Rattle.sc_papers.specs.Assignment.{assigned}
use Rattle.sc_papers.specs.Market.{is_student, students_of}
use Rattle.sc_papers.proofs.Hands.{has-position}
use Rattle.sc_papers.proofs.Positions.{among-student, position-among, position-there}
use Rattle.sc_repair.specs.Standing.{matching_of}
use Rattle.sc_reasons.specs.Entrants.{numbers_of, Holds}
use Rattle.sc_notices.specs.ExplanationText.{explanation_of}
use Rattle.sc_notices.proofs.ExplanationLemmas.{explained, one-explained}
use Rattle.sc_notices.proofs.explanation.explanation_of.Goals as goal

pub returns-in_default-clause-known : goal.returns-in_default-clause-known
returns-in_default-clause-known c =
    elim (cases_Bool (is_student c.deref-papers.result.now c.args.student)) [
      | inl known ↦ absurd (has-position c.deref-papers.result.now c.args.student known c.in_default.ensures)
      | inr unknown ↦ sym unknown ∙ ap (λ m. is_student m c.args.student) (c.deref-papers.ensures ∙ c.papers.ensures.papers)
    ]

pub returns-clause-known : goal.returns-clause-known
returns-clause-known c =
    let m = c.deref-papers.result.now in
    sym (among-student m c.args.student (position-among (students_of m) c.args.student c.in-Some.position (sym c.in-Some.ensures)))
    ∙ ap (λ n. is_student n c.args.student) (c.deref-papers.ensures ∙ c.papers.ensures.papers)

pub returns-clause-text : goal.returns-clause-text
returns-clause-text c =
    let n = c.deref-papers.result.now in
    let standing = c.args.clearing.now.standing in
    let m = standing.papers in
    let a = matching_of standing in
    let b = assigned c.places.result.now in
    let k = c.in-Some.position in
    let one = c.entrant_at-entrant.result in
    let here : slice_get (students_of n) k ≡ Some one.student =
    ap (slice_get (students_of n)) (sym c.entrant_at-entrant.ensures.position) ∙ c.entrant_at-entrant.ensures.stands in
    let same = same_Some one.student c.args.student (sym here ∙ position-there (students_of n) c.args.student k (sym c.in-Some.ensures)) in
    let held = c.entrant_at-entrant.ensures.held ∙ c.index.ensures ∙ ap (λ places. get_or places k c.index.result.now) c.in_ok-places.ensures
    ∙ get_or-map b (students_of n) k one.student c.index.result.now (slice_get_within (students_of n) k one.student here)
    ∙ ap b (get_or_from_slice_get (students_of n) k one.student one.student here) in
    let entrants = c.in_ok-from_slice.field-0.items in
    let items : entrants ≡ one ∷ [] = c.in_ok-from_slice.ensures.items in
    explained m a b n entrants c.in_ok-rows.rows.items (explanation_of m a c.args.student)
    (c.deref-papers.ensures ∙ c.papers.ensures.papers) (ap assigned c.places.ensures)
    (c.in_ok-rows.ensures.rows b (c.as_slice.ensures.value ∙ c.in_ok-places.ensures))
    (subst (All (Holds b)) (sym items) (All-cons (Holds b) one [] (sym held) (All-nil (Holds b))))
    (one-explained m a c.args.student (numbers_of entrants) (ap numbers_of items ∙ ap (λ i. i ∷ []) same))
