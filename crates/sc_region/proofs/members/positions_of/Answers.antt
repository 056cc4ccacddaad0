use Rattle.std.proofs.Common.{ℕ, Bool, sym, ◌∙◌}
use Rattle.sc_papers.specs.Market.{student_at}
use Rattle.sc_region.specs.Groups.{is_member}
use Rattle.sc_region.proofs.Filtering.{filter-range_drops, filter-range_keeps}
use Rattle.sc_region.proofs.members.positions_of.Goals as goal
use Rattle.sc_region.proofs.members.positions_of.Goals.{then-is_member+in_ok-push, else-is_member}

pub loop-position-preserved : goal.loop-position-preserved
loop-position-preserved c =
    let test : ℕ → Bool = λ p. is_member c.args.papers.now c.args.groups.now c.args.group (student_at c.args.papers.now p) in
    let at = c.loop-position.position in
    elim c.if-is_member.branch [
      | then-is_member+in_ok-push w ↦
          rw (w.positions-is, w.in_ok-push.ensures.items, c.loop-position.invariant) (sym (filter-range_keeps test at (sym c.is_member.ensures ∙ w.if-is_member.true)))
      | else-is_member w ↦ rw (w.positions-is, c.loop-position.invariant) (sym (filter-range_drops test at (sym c.is_member.ensures ∙ w.if-is_member.false)))
    ]
