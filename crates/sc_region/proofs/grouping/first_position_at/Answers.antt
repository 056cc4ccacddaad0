use Rattle.std.proofs.Common.{ℕ, List, ◌<◌, subst, sym, ◌∙◌, length, map, arith}
use Rattle.std.proofs.lemmas.Map.Entries.{length-keys_of}
use Rattle.sc_papers.proofs.Hands.{hand-student}
use Rattle.sc_papers.specs.Classed.{Classed}
use Rattle.sc_papers.specs.Market.{Market, choices_of, schools_of, student_at, students_of}
use Rattle.sc_papers.specs.WellFormed.{WellFormed}
use Rattle.sc_region.proofs.Joining.{choices-some, choice-within, choice-told, choices-count, ArePositions}
use Rattle.sc_region.proofs.grouping.first_position_at.Goals as goal

-- the student at a position has a first choice
some-choice : (m : Market) (at : ℕ) (listed : List Classed) → at < length (students_of m) → WellFormed m
    → ArePositions m (map (λ c. c.position) listed) (choices_of m (student_at m at)) → 0 < length listed
some-choice m at listed within well told =
    let some = choices-some m well (student_at m at) (hand-student m at (omega (arith, within, length-keys_of m.students))) in
    omega (arith, some, choices-count m listed (choices_of m (student_at m at)) told)

pub bounds-classed_choices_at-0 : goal.bounds-classed_choices_at-0
bounds-classed_choices_at-0 c =
    some-choice c.args.papers.now c.args.position c.classed_choices_at.result.now c.requires c.students_len.ensures.well_formed c.classed_choices_at.ensures.positions

pub returns-clause-position : goal.returns-clause-position
returns-clause-position c =
    let m = c.args.papers.now in
    let listed = c.classed_choices_at.result.now in
    let some = some-choice m c.args.position listed c.requires c.students_len.ensures.well_formed c.classed_choices_at.ensures.positions in
    c.position.ensures
    ∙ choice-told m listed (choices_of m (student_at m c.args.position)) c.classed_choices_at.ensures.positions 0 0 c.index-classed_choices_at-0.result some c.index-classed_choices_at-0.is

pub returns-clause-within : goal.returns-clause-within
returns-clause-within c =
    let m = c.args.papers.now in
    let listed = c.classed_choices_at.result.now in
    let some = some-choice m c.args.position listed c.requires c.students_len.ensures.well_formed c.classed_choices_at.ensures.positions in
    subst (λ (p : ℕ). p < length (schools_of m)) (sym c.position.ensures)
    (choice-within m listed (choices_of m (student_at m c.args.position)) c.classed_choices_at.ensures.positions 0 c.index-classed_choices_at-0.result some c.index-classed_choices_at-0.is)
