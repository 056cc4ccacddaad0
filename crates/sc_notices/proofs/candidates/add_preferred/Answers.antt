use Rattle.std.proofs.Common.{ap, arith, length, not}
use Rattle.std.specs.List.{position_or_len}
use Rattle.std.proofs.lemmas.List.Sums.{prefix_len-le-length}
use Rattle.sc_papers.specs.Market.{choices_of, student_at}
use Rattle.sc_notices.specs.Explanation.{is_given}
use Rattle.sc_notices.proofs.candidates.add_preferred.Goals as goal

pub add_choices-requires-clause-count : goal.add_choices-requires-clause-count
add_choices-requires-clause-count c =
    let held = c.args.held in
    omega (
      arith,
      c.preferred_count-count.ensures,
      ap (position_or_len (is_given held)) c.choices_at.ensures.choices,
      ap (λ m. length (choices_of m (student_at m c.args.student))) c.deref.ensures,
      prefix_len-le-length (λ s. not (is_given held s)) (choices_of c.args.papers.now (student_at c.args.papers.now c.args.student)),
    )
