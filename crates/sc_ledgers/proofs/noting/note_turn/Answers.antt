use Rattle.std.proofs.Common.{◌≡◌, ◌++◌, ◌∷◌, ◌+◌, ◌∙◌, [], ℕ, sym, ap, subst, slice_get, take}
use Rattle.std.proofs.lemmas.List.{take_more}
use Rattle.sc_papers.specs.Market.{choices_of, student_at}
use Rattle.sc_papers.proofs.Hands.{student-there}
use Rattle.sc_ledgers.specs.Course.{labels_of}
use Rattle.sc_ledgers.specs.Opening.{AreNoted, IsNotedAt}
use Rattle.sc_ledgers.proofs.Opening.{notes-first, notes-more}
use Rattle.sc_ledgers.proofs.noting.note_turn.Goals as goal

pub loop-at-init : goal.loop-at-init
loop-at-init c = (
  c.note_choice.ensures.one_each,
  notes-first c.args.papers.now c.args.turn (student_at c.args.papers.now c.args.position) c.args.segment.now (labels_of c.args.papers.now c.args.lists.now.items) (labels_of c.args.papers.now c.note_choice.new.lists.items) c.in_ok-note_choice.ensures.noted,
)

pub loop-at-preserved : goal.loop-at-preserved
loop-at-preserved c =
    let m = c.args.papers.now in
    let k : ℕ = c.args.turn in
    let i : ℕ = student_at m c.args.position in
    let e = c.index-segment-at.result in
    let index : ℕ = c.loop-at.at in
    let (rank, at, next) = c.hand_after-hand.ensures.rank in
    let labels = labels_of m c.args.lists.now.items in
    let now = labels_of m c.loop-at.lists.items in
    let noted = labels_of m c.note_choice-in-loop-at.new.lists.items in
    let is : student_at m c.hand_after-hand.result.position ≡ e.student = student-there m e.student c.hand_after-hand.result.position c.hand_after-hand.ensures.student in
    let note : IsNotedAt m k e.student (slice_get (choices_of m e.student) (rank + 1)) c.args.segment.now now noted =
    subst (λ r. IsNotedAt m k e.student (slice_get (choices_of m e.student) r) c.args.segment.now now noted) next
    (subst (λ j. IsNotedAt m k j (slice_get (choices_of m j) c.hand_after-hand.result.rank) c.args.segment.now now noted) is c.in_ok-note_choice-2.ensures.noted) in (
      c.note_choice-in-loop-at.ensures.one_each,
      subst (λ segment. AreNoted m k i segment c.args.segment.now labels noted) (sym (take_more c.args.segment.now index e c.loop-at-test.true ∙ ap (λ x. take index c.args.segment.now ++ x ∷ []) (sym c.index-segment-at.is)))
          (notes-more m k i (take index c.args.segment.now) c.args.segment.now labels now noted e rank c.loop-at.invariant.1 at note),
    )
