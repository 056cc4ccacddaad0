use Rattle.std.proofs.Common.{◌≡◌, sym, ap, subst, ◌∙◌, ℕ, Some, slice_get, position, ◌+◌, ◌==◌, arith}
use Rattle.std.proofs.lemmas.Option.{get_or_from_slice_get, none-some, same_Some, slice_get_within}
use Rattle.sc_papers.specs.Market.{choices_of, student_at}
use Rattle.sc_papers.proofs.Hands.{has-position, student-there}
use Rattle.sc_papers.proofs.Positions.{among-student}
use Rattle.sc_papers.proofs.Students.{choices-short, lister-among}
use Rattle.sc_ledgers.specs.Course.{labels_of, HasNone}
use Rattle.sc_ledgers.proofs.Coursing.{rank-there}
use Rattle.sc_ledgers.proofs.striking.strike_next.Goals as goal

pub returns-in_default-clause-none : goal.returns-in_default-clause-none
returns-in_default-clause-none c s (rank, at, listed) label here turn key =
    let m = c.args.papers.now in
    let i : ℕ = c.args.entry.now.student in
    absurd (has-position m i (among-student m i (lister-among m i s (rank + 1, slice_get_within (choices_of m i) (rank + 1) s listed, get_or_from_slice_get (choices_of m i) (rank + 1) s s listed))) c.in_default.ensures)

pub returns-in_default-choice_rank_at-clause-none : goal.returns-in_default-choice_rank_at-clause-none
returns-in_default-choice_rank_at-clause-none c s (rank, at, listed) label here turn key =
    let m = c.args.papers.now in
    let is : student_at m c.in-Some.student ≡ c.args.entry.now.student = student-there m c.args.entry.now.student c.in-Some.student (sym c.in-Some.ensures) in
    absurd (none-some rank (c.in_default-choice_rank_at.ensures ∙ ap (λ i. position (λ t. t == c.args.entry.now.school) (choices_of m i)) is ∙ at))

pub overflow_add-rank : goal.overflow_add-rank
overflow_add-rank c =
    let m = c.args.papers.now in
    let is : student_at m c.in-Some.student ≡ c.args.entry.now.student = student-there m c.args.entry.now.student c.in-Some.student (sym c.in-Some.ensures) in
    let found : slice_get (choices_of m c.args.entry.now.student) c.in-Some-choice_rank_at.rank ≡ Some c.args.entry.now.school = rank-there (choices_of m c.args.entry.now.student) c.args.entry.now.school c.in-Some-choice_rank_at.rank (ap (λ i. position (λ t. t == c.args.entry.now.school) (choices_of m i)) (sym is) ∙ sym c.in-Some-choice_rank_at.ensures) in
    omega (arith, choices-short m c.students_len.ensures.within_limits c.args.entry.now.student, slice_get_within (choices_of m c.args.entry.now.student) c.in-Some-choice_rank_at.rank c.args.entry.now.school found)

pub returns-clause-none : goal.returns-clause-none
returns-clause-none c s (rank, at, listed) =
    let m = c.args.papers.now in
    let is : student_at m c.in-Some.student ≡ c.args.entry.now.student = student-there m c.args.entry.now.student c.in-Some.student (sym c.in-Some.ensures) in
    let same : rank ≡ c.in-Some-choice_rank_at.rank = same_Some rank c.in-Some-choice_rank_at.rank (sym at ∙ ap (λ i. position (λ t. t == c.args.entry.now.school) (choices_of m i)) (sym is) ∙ sym c.in-Some-choice_rank_at.ensures) in
    subst (λ i. HasNone m c.args.turn i s (labels_of m c.strike_at.new.ledgers.items)) is
    (c.strike_at.ensures.none s (ap (λ i. slice_get (choices_of m i) (c.in-Some-choice_rank_at.rank + 1)) is ∙ ap (λ r. slice_get (choices_of m c.args.entry.now.student) (r + 1)) (sym same) ∙ listed))
