use Rattle.std.proofs.Common.{◌==◌, None, Some, sym, ◌∙◌, arith}
use Rattle.std.proofs.lemmas.List.Quantifiers.{position-Some}
use Rattle.sc_papers.specs.Market.{choices_of, student_at}
use Rattle.sc_papers.proofs.Students.{choices-short}
use Rattle.sc_ledgers.proofs.TurnsCounted.{after-at, unknown-after}
use Rattle.sc_ledgers.proofs.proposals.choice_after.Goals as goal

pub returns-in_default : goal.returns-in_default
returns-in_default c = sym (unknown-after c.args.papers.now c.args.entry.now (sym c.in_default.ensures))

pub returns-in_default-choice_rank_at : goal.returns-in_default-choice_rank_at
returns-in_default-choice_rank_at c = sym (after-at c.args.papers.now c.args.entry.now c.in-Some.position None (sym c.in-Some.ensures) c.in_default-choice_rank_at.ensures)

pub overflow_add-rank : goal.overflow_add-rank
overflow_add-rank c =
    let m = c.args.papers.now in
    let i = student_at m c.in-Some.position in
    omega (
      arith,
      choices-short m c.students_len.ensures.within_limits i,
      (position-Some (λ s. s == c.args.entry.now.school) (choices_of m i) c.in-Some-choice_rank_at.rank 0 (sym c.in-Some-choice_rank_at.ensures)).0,
    )

pub returns : goal.returns
returns c = c.choice_at.ensures ∙ sym (after-at c.args.papers.now c.args.entry.now c.in-Some.position (Some c.in-Some-choice_rank_at.rank) (sym c.in-Some.ensures) c.in-Some-choice_rank_at.ensures)
