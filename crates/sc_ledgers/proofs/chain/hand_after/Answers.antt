use Rattle.std.proofs.Common.{◌≡◌, refl, sym, ap, ◌∙◌, Some, slice_get, position, ◌==◌, arith}
use Rattle.std.proofs.lemmas.Option.{slice_get_within}
use Rattle.sc_papers.specs.Market.{choices_of, student_at}
use Rattle.sc_papers.proofs.Hands.{has-position, student-there}
use Rattle.sc_papers.proofs.Positions.{among-student}
use Rattle.sc_papers.proofs.Students.{choices-short, lister-among}
use Rattle.sc_ledgers.proofs.Coursing.{rank-found, rank-there}
use Rattle.sc_ledgers.proofs.chain.hand_after.Goals as goal

pub unreachable-requires : goal.unreachable-requires
unreachable-requires c =
    let m = c.args.papers.now in
    has-position m c.args.entry.now.student (among-student m c.args.entry.now.student (lister-among m c.args.entry.now.student c.args.entry.now.school c.requires.listed)) c.in_default.ensures

pub unreachable-requires-in_default-choice_rank_at : goal.unreachable-requires-in_default-choice_rank_at
unreachable-requires-in_default-choice_rank_at c =
    let m = c.args.papers.now in
    let is : student_at m c.in-Some.position ≡ c.args.entry.now.student = student-there m c.args.entry.now.student c.in-Some.position (sym c.in-Some.ensures) in
    rank-found (choices_of m c.args.entry.now.student) c.args.entry.now.school c.requires.listed
    (ap (λ i. position (λ t. t == c.args.entry.now.school) (choices_of m i)) (sym is) ∙ sym c.in_default-choice_rank_at.ensures)

pub overflow_add-result : goal.overflow_add-result
overflow_add-result c =
    let m = c.args.papers.now in
    let is : student_at m c.in-Some.position ≡ c.args.entry.now.student = student-there m c.args.entry.now.student c.in-Some.position (sym c.in-Some.ensures) in
    let found : slice_get (choices_of m c.args.entry.now.student) c.in-Some-choice_rank_at.rank ≡ Some c.args.entry.now.school = rank-there (choices_of m c.args.entry.now.student) c.args.entry.now.school c.in-Some-choice_rank_at.rank (ap (λ i. position (λ t. t == c.args.entry.now.school) (choices_of m i)) (sym is) ∙ sym c.in-Some-choice_rank_at.ensures) in
    omega (arith, choices-short m c.students_len.ensures.within_limits c.args.entry.now.student, slice_get_within (choices_of m c.args.entry.now.student) c.in-Some-choice_rank_at.rank c.args.entry.now.school found)

pub returns-clause-rank : goal.returns-clause-rank
returns-clause-rank c =
    let m = c.args.papers.now in
    let is : student_at m c.in-Some.position ≡ c.args.entry.now.student = student-there m c.args.entry.now.student c.in-Some.position (sym c.in-Some.ensures) in
    (c.in-Some-choice_rank_at.rank, ap (λ i. position (λ t. t == c.args.entry.now.school) (choices_of m i)) (sym is) ∙ sym c.in-Some-choice_rank_at.ensures, refl)
