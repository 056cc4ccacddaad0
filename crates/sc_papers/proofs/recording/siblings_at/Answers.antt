use Rattle.std.proofs.Common.{◌≡◌, ℕ, List, [], ◌∷◌, ◌++◌, ap, subst, sym, option_to_list, ◌∙◌}
use Rattle.std.specs.Result.{IfOk}
use Rattle.sc_papers.specs.Market.{siblings_of, student_at}
use Rattle.sc_papers.proofs.Placed.{places-back, places-low}
use Rattle.sc_papers.proofs.Representation.{first-only}
use Rattle.sc_papers.proofs.recording.siblings_at.Goals as goal
use Rattle.sc_papers.proofs.recording.siblings_at.Goals.{in-Some+in_ok-push, in_default}

pub schools_at-requires : goal.schools_at-requires
schools_at-requires c =
    let m = c.args.papers.now in
    places-low m (siblings_of m (student_at m c.args.position)) c.sibling_positions_at.result.now c.sibling_positions_at.ensures

pub returns-then-has_more_siblings : goal.returns-then-has_more_siblings
returns-then-has_more_siblings c =
    let m = c.args.papers.now in
    subst (λ xs. IfOk c.schools_at.result (λ list. list ≡ xs))
    (places-back m (siblings_of m (student_at m c.args.position)) c.sibling_positions_at.result.now c.sibling_positions_at.ensures) c.schools_at.ensures

pub returns : goal.returns
returns c =
    let m = c.args.papers.now in
    let siblings = siblings_of m (student_at m c.args.position) in
    let one = sym (c.has_more_siblings.ensures ∙ c.requires.more_siblings) ∙ c.if-has_more_siblings.false in
    c.from_vec.ensures ∙ (elim c.match-sibling.branch [
      | in-Some+in_ok-push w ↦
          ap (λ v. v.items) w.schools-is ∙ w.in_ok-push.ensures.items ∙ ap (λ (xs : List ℕ). xs ++ w.in-Some.school ∷ []) c.new-schools.ensures.items ∙ ap option_to_list (w.in-Some.ensures ∙ c.requires.sibling)
      | in_default w ↦ ap (λ v. v.items) w.schools-is ∙ c.new-schools.ensures.items ∙ ap option_to_list (w.in_default.ensures ∙ c.requires.sibling)
    ]) ∙ first-only siblings one
