use Rattle.std.proofs.Common.{◌≡◌, ◌<◌, ◌↔◌, below_more, Bool, List, true, false, length, get_or, sym, ap, ◌∙◌, is_some, ℕ, IsTrue, Contains, arith}
use Rattle.std.proofs.lemmas.List.{get_or_default, length-map}
use Rattle.sc_papers.specs.Market.{student_at, students_of}
use Rattle.sc_region.proofs.MarkedPositions.{below-marked}
use Rattle.sc_repair.specs.Rewinding.{lists}
use Rattle.sc_repair.proofs.FirstAmong.{first-among, none-among}
use Rattle.sc_repair.proofs.Rewinding.{rank-lists}
use Rattle.sc_repair.proofs.rewind.first_marked.Goals as goal

-- a marked position is that of a student
within : (marks : List Bool) (positions : List ℕ) (k count : ℕ) → k < length positions
    → ((p : ℕ) → (Contains positions p ↔ IsTrue (get_or marks p false))) → length marks ≡ count → get_or positions k 0 < count
within marks positions k count low marked one_each =
    let p = get_or positions k 0 in omega (arith, one_each, below-marked marks p ((marked p).0 (k, low, get_or_default positions k p 0 low)))

pub choice_rank_at-requires : goal.choice_rank_at-requires
choice_rank_at-requires c =
    within c.args.region.now c.positions-positions.result.now c.loop-position.position-index (length c.args.papers.now.students) c.loop-position-test.true c.positions-positions.ensures.marked c.requires.one_each

pub loop-position-preserved : goal.loop-position-preserved
loop-position-preserved c =
    let m = c.args.papers.now in
    let positions = c.positions-positions.result.now in
    let index = c.loop-position.position-index in
    below_more (λ (k : ℕ). lists m c.args.school (get_or (students_of m) (get_or positions k 0) 0) ≡ false) index c.loop-position.invariant
    (sym (rank-lists m c.args.school (student_at m (get_or positions index 0))) ∙ sym (c.is_some.ensures ∙ ap is_some c.choice_rank_at.ensures) ∙ c.if-is_some.false)

pub returns-then-is_some : goal.returns-then-is_some
returns-then-is_some c =
    let positions = c.positions-positions.result.now in
    let index = c.loop-position.position-index in
    let m = c.args.papers.now in
    let count : length (students_of m) ≡ length m.students = length-map m.students (λ e. e.0) in
    let inside : get_or positions index 0 < length m.students =
    within c.args.region.now positions index (length m.students) c.loop-position-test.true c.positions-positions.ensures.marked c.requires.one_each in
    let all : (p : ℕ) → p < length (students_of m) → lists m c.args.school (get_or (students_of m) p 0) ≡ true → Contains positions p =
    λ p low listed. (c.positions-positions.ensures.marked p).1 (c.requires.marked p (omega (arith, low, count)) listed) in
    first-among (lists m c.args.school) (students_of m) positions index c.loop-position-test.true c.positions-positions.ensures.rising
    all c.loop-position.invariant (omega (arith, inside, count))
    (sym (rank-lists m c.args.school (student_at m (get_or positions index 0))) ∙ sym (c.is_some.ensures ∙ ap is_some c.choice_rank_at.ensures) ∙ c.if-is_some.true)

pub returns : goal.returns
returns c =
    let positions = c.positions-positions.result.now in
    let m = c.args.papers.now in
    let count : length (students_of m) ≡ length m.students = length-map m.students (λ e. e.0) in
    let all : (p : ℕ) → p < length (students_of m) → lists m c.args.school (get_or (students_of m) p 0) ≡ true → Contains positions p =
    λ p low listed. (c.positions-positions.ensures.marked p).1 (c.requires.marked p (omega (arith, low, count)) listed) in
    c.students_len.ensures.count ∙ sym count
    ∙ none-among (lists m c.args.school) (students_of m) positions all
    (λ k low. c.loop-position.invariant k (omega (arith, low, c.loop-position-test.false)))
