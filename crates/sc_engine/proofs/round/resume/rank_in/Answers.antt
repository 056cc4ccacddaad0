use Rattle.std.proofs.Common.{sym, ◌∙◌, ap, subst, ℕ, Option, IfSome, Contains, length, arith}
use Rattle.std.proofs.lemmas.Option.{slice_get_within}
use Rattle.sc_papers.specs.Key.{class_at}
use Rattle.sc_papers.specs.Market.{choices_of, student_at}
use Rattle.sc_papers.proofs.Students.{choices-short}
use Rattle.sc_engine.proofs.Tables.{length-mapped}
use Rattle.sc_engine.proofs.Ranks.{rank-there, rank-found}
use Rattle.sc_engine.proofs.round.resume.rank_in.Goals as goal

pub returns-in_default-clause-within : goal.returns-in_default-clause-within
returns-in_default-clause-within c =
    omega (arith, choices-short c.args.papers.now c.students_len.ensures.within_limits (student_at c.args.papers.now c.args.at), ap length c.classed_choices_at.ensures.classes, length-mapped (λ c'. c'.class) c.classed_choices_at.result.now, length-mapped (class_at c.args.papers.now (student_at c.args.papers.now c.args.at)) (choices_of c.args.papers.now (student_at c.args.papers.now c.args.at)))

pub unreachable-requires : goal.unreachable-requires
unreachable-requires c =
    rank-found (choices_of c.args.papers.now (student_at c.args.papers.now c.args.at)) c.in-Some.school
    (subst (λ (o : Option ℕ). IfSome o (λ s. Contains (choices_of c.args.papers.now (student_at c.args.papers.now c.args.at)) s)) c.in-Some.is c.requires.listed)
    (sym c.choice_rank_at.ensures ∙ c.in_default-choice_rank_at.is)

pub returns-clause-rank : goal.returns-clause-rank
returns-clause-rank c = rank-there _ _ _ (sym c.choice_rank_at.ensures ∙ c.in-Some-choice_rank_at.is) ∙ sym c.in-Some.is

pub returns-clause-within : goal.returns-clause-within
returns-clause-within c =
    let choices = choices_of c.args.papers.now (student_at c.args.papers.now c.args.at) in
    omega (
      arith,
      choices-short c.args.papers.now c.students_len.ensures.within_limits (student_at c.args.papers.now c.args.at),
      slice_get_within choices c.in-Some-choice_rank_at.rank c.in-Some.school (rank-there choices c.in-Some.school c.in-Some-choice_rank_at.rank (sym c.choice_rank_at.ensures ∙ c.in-Some-choice_rank_at.is)),
    )
