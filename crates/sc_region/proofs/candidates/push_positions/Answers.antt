use Rattle.std.proofs.Common.{◌≡◌, ◌<◌, ◌≤◌, ℕ, ◌+◌, refl, ap, sym, subst, ◌∙◌, length, take, get_or, nat_eq, Option, Some, None, position, take_all, Contains, arith}
use Rattle.std.proofs.lemmas.List.{get_or-map, length-map}
use Rattle.sc_papers.specs.Market.{students_of, student_at}
use Rattle.sc_region.specs.declared.first.First.{First}
use Rattle.sc_region.specs.Districts.{students_in}
use Rattle.sc_region.proofs.Listed.{HasPositions, positions-absent, positions-found}
use Rattle.sc_region.proofs.candidates.push_positions.Goals as goal
use Rattle.sc_region.proofs.candidates.push_positions.Goals.{in-Some+in_ok-push, in_default}

pub loop-first-preserved : goal.loop-first-preserved
loop-first-preserved c =
    let m = c.args.papers.now in
    let xs = students_in c.args.firsts.now in
    let at = c.loop-first.first-index in
    let old = c.args.positions.now.items in
    let now = c.loop-first.positions.items in
    let i = c.first-item.result.student in
    let low : at < length xs = omega (arith, c.loop-first-test.true, length-map c.args.firsts.now (λ (first : First). first.student)) in
    let here : i ≡ get_or xs at i =
    ap (λ (first : First). first.student) c.first-item.is ∙ sym (get_or-map (λ (first : First). first.student) c.args.firsts.now at c.first-item.result i c.loop-first-test.true) in
    elim c.match-student_position_near.branch [
      | in-Some+in_ok-push w ↦
          subst (HasPositions m (take (at + 1) xs) old) (sym (ap (λ (v : _). v.items) w.positions-is ∙ w.in_ok-push.ensures.items))
          (positions-found m c.students_len.ensures.well_formed xs old now at i low here c.loop-first.invariant w.in-Some.position (sym c.student_position_near.ensures ∙ w.in-Some.is))
      | in_default w ↦
          subst (HasPositions m (take (at + 1) xs) old) (sym (ap (λ (v : _). v.items) w.positions-is))
          (positions-absent m c.students_len.ensures.well_formed xs old now at i low here c.loop-first.invariant
          (none-of (position (nat_eq i) (students_of m)) (λ p found. w.in_default.not-Some p (c.student_position_near.ensures ∙ found))))
    ]
  where
    none-of : (o : Option ℕ) → ((p : ℕ) → o ≡ Some p → ⊥) → o ≡ None
    none-of None never = refl
    none-of (Some p) never = absurd (never p refl)

pub returns-clause-all : goal.returns-clause-all
returns-clause-all c p low among =
    let xs = students_in c.args.firsts.now in
    let past : length xs ≤ c.loop-first.first-index = omega (arith, c.loop-first-test.false, length-map c.args.firsts.now (λ (first : First). first.student)) in
    c.loop-first.invariant.all p low (subst (λ ys. Contains ys (student_at c.args.papers.now p)) (sym (take_all c.loop-first.first-index xs past)) among)
