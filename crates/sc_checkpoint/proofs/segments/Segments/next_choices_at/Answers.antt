use Rattle.std.proofs.Common.{◌≡◌, ◌<◌, ◌++◌, ◌∷◌, [], refl, sym, ◌∙◌, ap, subst, length, Some, slice_get, take, arith}
use Rattle.std.proofs.lemmas.Option.{slice_get_read}
use Rattle.sc_papers.proofs.Hands.{hand-is}
use Rattle.sc_papers.specs.Log.{next_choice}
use Rattle.sc_papers.specs.Market.{choices_of, students_of}
use Rattle.sc_papers.specs.Restriction.{joined}
use Rattle.sc_checkpoint.specs.Chains.{logs_in}
use Rattle.sc_checkpoint.specs.Ranks.{AreTabled}
use Rattle.sc_checkpoint.proofs.Marking.{next-found, standings-more}
use Rattle.sc_checkpoint.proofs.segments.Segments.next_choices_at.Goals as goal

pub loop-position-preserved : goal.loop-position-preserved
loop-position-preserved c =
    let m = c.args.papers.now in
    let log = joined (take c.args.k (logs_in c.args.self.now)) in
    let table = c.in_ok-rejected.rejected.items in
    let at = c.loop-position.position in
    let i = c.in-Some.student in
    let here : slice_get (students_of m) at ≡ Some i = sym c.student_at.ensures ∙ c.in-Some.is in
    let low : at < length table = omega (arith, c.in_ok-rejected.ensures.count, c.loop-position-test.true) in
    let row : slice_get table at ≡ Some c.index.result.now = slice_get_read table (length table) at c.index.result.now refl low c.index.ensures in
    let tabled : AreTabled m (students_of m) log table = subst (λ entries. AreTabled m (students_of m) entries table) (c.as_slice.ensures.value ∙ c.in_ok-log.ensures) c.in_ok-rejected.ensures.tabled in
    let rank = c.first_outside.result in
    let next : c.choice_at-next.result ≡ next_choice m log i =
    c.choice_at-next.ensures ∙ ap (λ j. slice_get (choices_of m j) rank) (hand-is m at i here)
    ∙ next-found m log i c.index.result.now rank c.students_len.ensures.within_limits (tabled.at at i c.index.result.now here row) c.first_outside.ensures in
    c.in_ok-push.ensures.items
    ∙ ap (λ items. items ++ record { student = i; next = c.choice_at-next.result } ∷ []) c.loop-position.invariant
    ∙ standings-more m log (students_of m) at i _ here (λ t. record { student = i; next = next t })
