use Rattle.std.proofs.Common.{◌≡◌, ◌++◌, ap, sym, ◌∙◌, Some, slice_get, arith}
use Rattle.std.proofs.lemmas.List.{append-nil}
use Rattle.std.proofs.lemmas.Map.Entries.{length-keys_of}
use Rattle.sc_papers.proofs.Hands.{hand-is}
use Rattle.sc_papers.specs.Market.{students_of}
use Rattle.sc_region.proofs.Changes.{entrants-none}
use Rattle.sc_region.proofs.Filtering.{filter-keeps, filter-drops, filter-whole}
use Rattle.sc_region.specs.Groups.{entrants, group_of, is_member, members_of, start_of}
use Rattle.sc_region.proofs.reach.region_members.Goals as goal
use Rattle.sc_region.proofs.reach.region_members.Goals.{then-is_member+in_ok-push, else-is_member, in-Enter+in_ok-push-2, in_default-amendment}

pub loop-position-preserved : goal.loop-position-preserved
loop-position-preserved c =
    let m = c.args.papers.now in
    let xs = students_of m in
    let at = c.loop-position.position in
    let x = c.in-Some.student in
    let here : slice_get xs at ≡ Some x = sym c.student_at.ensures ∙ c.in-Some.is in
    let test = is_member m c.args.groups.now c.args.group in
    let own : test x ≡ c.is_member.result = ap test (sym (hand-is m at x here)) ∙ sym c.is_member.ensures in
    elim c.if-is_member.branch [
      | then-is_member+in_ok-push w ↦
          rw (w.members-is, w.in_ok-push.ensures.items, c.loop-position.invariant)
          (sym (filter-keeps test xs at x here (own ∙ w.if-is_member.true)))
      | else-is_member w ↦
          rw (w.members-is, c.loop-position.invariant)
          (sym (filter-drops test xs at x here (own ∙ w.if-is_member.false)))
    ]

pub returns : goal.returns
unfolding members_of
returns c =
    let m = c.args.papers.now in
    let a = c.args.amendment.now in
    let numbers = c.args.groups.now in
    let old : c.loop-position.members.items ≡ members_of m numbers (group_of m numbers (start_of m a)) =
    c.loop-position.invariant
    ∙ filter-whole (is_member m numbers c.args.group) (students_of m) c.loop-position.position
    (omega (arith, c.loop-position-test.false, c.students_len-position-end.ensures.count, length-keys_of m.students))
    ∙ ap (members_of m numbers) c.requires.group in
    elim c.match-amendment.branch [
      | in-Enter+in_ok-push-2 w ↦
          rw (w.members-is, w.in_ok-push-2.ensures.items) (λ t. old t ++ entrants (sym w.in-Enter.is t))
      | in_default-amendment w ↦
          rw (w.members-is, entrants-none a w.in_default-amendment.not-Enter)
          (old ∙ sym (append-nil (members_of m numbers (group_of m numbers (start_of m a)))))
    ]
