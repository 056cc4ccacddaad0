use Rattle.std.proofs.Common.{◌≡◌, ◌∙◌, ℕ, Some, inl, inr, sym, subst, length, get_or, slice_get, slice_set, arith}
use Rattle.std.proofs.lemmas.List.{length-set}
use Rattle.std.proofs.lemmas.Option.{none-some, slice_get-get_or, slice_get_within}
use Rattle.std.proofs.lemmas.Bool.{cases_lt}
use Rattle.sc_papers.specs.Market.{choices_of, student_at}
use Rattle.sc_papers.proofs.Students.{choices-short}
use Rattle.sc_ledgers.specs.Course.{labels_of, AreGone, IsUnkeyed}
use Rattle.sc_ledgers.proofs.Proposing.{gone-more, ledger-here, unkeyed-at}
use Rattle.sc_ledgers.proofs.striking.strike_student.Goals as goal

pub overflow_add-rank : goal.overflow_add-rank
overflow_add-rank c =
    let m = c.args.papers.now in
    let i : ℕ = student_at m c.args.student in
    omega (arith, choices-short m c.students_len.ensures.within_limits i, slice_get_within (choices_of m i) c.loop-proposal.rank c.in-Some.proposal.school (sym c.in-Some.ensures.school))

pub loop-proposal-smaller : goal.loop-proposal-smaller
loop-proposal-smaller c =
    let m = c.args.papers.now in
    let i : ℕ = student_at m c.args.student in
    omega (arith, slice_get_within (choices_of m i) c.loop-proposal.rank c.in-Some.proposal.school (sym c.in-Some.ensures.school))

pub loop-proposal-preserved : goal.loop-proposal-preserved
loop-proposal-preserved c =
    let m = c.args.papers.now in
    let i : ℕ = student_at m c.args.student in
    let s : ℕ = c.in-Some.proposal.school in
    let place : ℕ = c.in-Some.proposal.position in
    let now = c.loop-proposal.ledgers.items in
    let one_each = c.loop-proposal.invariant.0 in
    let listed : slice_get (choices_of m i) c.loop-proposal.rank ≡ Some s = sym c.in-Some.ensures.school in (
      length-set now place c.strike.new.self ∙ one_each,
      omega (arith, slice_get_within (choices_of m i) c.loop-proposal.rank s listed),
      gone-more m i c.loop-proposal.rank s (labels_of m c.args.ledgers.now.items) (labels_of m now) (labels_of m (slice_set now place c.strike.new.self)) listed c.loop-proposal.invariant.2
          (subst (λ key. IsUnkeyed key s (labels_of m now) (labels_of m (slice_set now place c.strike.new.self))) c.in-Some.ensures.key
          (unkeyed-at m now s place c.in-Some.proposal.key c.index_mut.result.now c.strike.new.self c.in-Some.ensures.position one_each
          (ledger-here m now s place c.index_mut.result.now c.in-Some.ensures.position one_each c.index_mut.ensures.value)
          c.strike.ensures.kept c.strike.ensures.only)),
    )

pub returns-clause-gone : goal.returns-clause-gone
returns-clause-gone c =
    let m = c.args.papers.now in
    let i : ℕ = student_at m c.args.student in
    let all : c.loop-proposal.rank ≡ length (choices_of m i) = elim (cases_lt c.loop-proposal.rank (length (choices_of m i))) [
      | inl low ↦ absurd (none-some (get_or (choices_of m i) c.loop-proposal.rank 0) (c.in_default.ensures.school ∙ slice_get-get_or (choices_of m i) c.loop-proposal.rank 0 low))
      | inr past ↦ omega (arith, past, c.loop-proposal.invariant.1)
    ] in
    subst (λ ranks. AreGone m i ranks (labels_of m c.args.ledgers.now.items) (labels_of m c.loop-proposal.ledgers.items)) all c.loop-proposal.invariant.2
