use Rattle.std.proofs.Common.{◌≡◌, refl, sym, subst, ℕ, ◌+◌, [], ◌∷◌, ◌++◌, slice_get, Some, ap, ◌∙◌, arith}
use Rattle.sc_papers.specs.Market.{choices_of, student_at, students_of}
use Rattle.sc_papers.specs.Restriction.{joined}
use Rattle.sc_papers.proofs.Hands.{hand-there}
use Rattle.sc_ledgers.specs.Cohort.{cohort, cut}
use Rattle.sc_ledgers.specs.Course.{labels_of, Begins, Ended}
use Rattle.sc_ledgers.specs.Elsewhere.{AreStances, HasPut}
use Rattle.sc_ledgers.specs.Opening.{everybody}
use Rattle.sc_ledgers.specs.declared.elsewhere.Stance.{Stance}
use Rattle.sc_ledgers.specs.Ends.{place_of, AreEnds}
use Rattle.sc_ledgers.specs.Proposals.{end_of}
use Rattle.sc_ledgers.proofs.TurnEnds.{ends-few, ends-push}
use Rattle.sc_ledgers.proofs.Newcomers.{as_many, begins-last, few-run, stances-last, stances-whole, whole-last}
use Rattle.sc_ledgers.proofs.Siding.{aside-here}
use Rattle.sc_ledgers.proofs.entering.enter_last.Goals as goal

pub run_turn-requires-clause-begins : goal.run_turn-requires-clause-begins
run_turn-requires-clause-begins c =
    let m = c.args.papers.now in
    let labels = labels_of m c.args.ledgers.now.schools.items in
    let (segments, whole, ended) = c.requires.whole in (
      segments,
      λ enters. subst (λ k. Begins (cohort m everybody) segments k labels) (sym c.turn_at-turn.ensures)
          (begins-last m c.args.position segments labels c.students_len.ensures.well_formed c.requires.last whole),
    )

pub returns-clause-entered : goal.returns-clause-entered
returns-clause-entered c segments whole ended =
    let m = c.args.papers.now in
    let n = cohort m everybody in
    let position : ℕ = c.args.position in
    let i : ℕ = student_at m position in
    let well = c.students_len.ensures.well_formed in
    let labels = labels_of m c.args.ledgers.now.schools.items in
    let now = labels_of m c.run_turn.new.ledgers.items in
    let chain = c.run_turn.new.chain.items in
    let first : Stance = record { student = i; old = slice_get (choices_of m i) 0; new = slice_get (choices_of m i) 0 } in
    let here : slice_get (students_of m) position ≡ Some i = hand-there m position (omega (arith, c.requires.last)) in
    let put : HasPut [] c.stand_first.new.stances first = subst (λ list. HasPut list c.stand_first.new.stances first) c.requires.nobody c.in_ok-stand_first.ensures in
    let run = c.in_ok-run_turn.ensures.ran segments refl (subst (λ k. Begins n segments k labels) (sym c.turn_at-turn.ensures) (begins-last m position segments labels well c.requires.last whole)) in
    record {
      whole = whole-last m position segments labels well c.requires.last whole i chain now here
          (subst (λ k. Ended n segments k chain labels now) c.turn_at-turn.ensures run.ended);
      ended = subst (AreEnds m (segments ++ chain ∷ [])) (sym c.in_ok-push.ensures)
          (ends-push m segments c.args.ledgers.now.ends chain c.end_place-end.result
          (subst (λ l. c.end_place-end.result ≡ place_of m (end_of m i l)) c.as_slice.ensures.value c.end_place-end.ensures.place
          ∙ ap (λ at. place_of m (end_of m (student_at m at) chain)) (sym (as_many m position segments labels well c.requires.last whole)))
          (ends-few m position well (omega (arith, c.requires.last)) segments c.args.ledgers.now.ends (few-run m position segments labels well c.requires.last whole) ended));
      stances = stances-whole m position (joined segments) (joined segments ++ chain) c.run_turn.new.stances well c.requires.last
          (subst (λ k. AreStances (cut n (position + 1)) (cut n (k + 1)) (joined segments) (joined segments ++ chain) c.run_turn.new.stances) c.turn_at-turn.ensures
          (run.stances (cut n (position + 1)) (joined segments) well
          (subst (λ k. AreStances (cut n (position + 1)) (cut n (k + 1)) (joined segments) (joined segments) c.stand_first.new.stances) (sym c.turn_at-turn.ensures)
          (stances-last m position segments labels well c.requires.last whole i c.stand_first.new.stances here put))));
      held = c.in_ok-run_turn.ensures.kept i (aside-here c.stand_first.new.stances first put.there);
    }
