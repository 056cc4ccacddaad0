use Rattle.std.proofs.Common.{ℕ, Bool, ◌==◌, sym}
use Rattle.std.specs.Prelude.{slice_index}
use Rattle.std.proofs.lemmas.Bool.{eq-eqb, ne_eqb}
use Rattle.sc_region.proofs.Filtering.{filter-range_drops, filter-range_keeps}
use Rattle.sc_region.proofs.candidates.schools_of_group.Goals as goal
use Rattle.sc_region.proofs.candidates.schools_of_group.Goals.{then-groups-school+in_ok-push, else-groups-school}

pub loop-school-preserved : goal.loop-school-preserved
loop-school-preserved c =
    let test : ℕ → Bool = λ at. slice_index c.args.groups.now at == c.args.group in
    let at = c.loop-school.school in
    elim c.if-groups-school.branch [
      | then-groups-school+in_ok-push w ↦
          rw (w.schools-is, w.in_ok-push.ensures.items, c.loop-school.invariant) (sym (filter-range_keeps test at (eq-eqb _ _ w.if-groups-school.true)))
      | else-groups-school w ↦ rw (w.schools-is, c.loop-school.invariant) (sym (filter-range_drops test at (ne_eqb _ _ w.if-groups-school.false)))
    ]
