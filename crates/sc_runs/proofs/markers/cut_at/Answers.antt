use Rattle.std.proofs.Common.{◌∙◌, length, sym, arith}
use Rattle.sc_runs.proofs.Cutting.{cut_at-found, parts_from-end, parts_from-passed, parts_from-place}
use Rattle.sc_runs.specs.Markers.{begins_line}
use Rattle.sc_runs.proofs.markers.cut_at.Goals as goal

pub returns-in_default : goal.returns-in_default
returns-in_default c =
    let end = length c.args.bytes.now in
    sym (parts_from-end c.args.marker.now c.args.bytes.now end (omega arith))
    ∙ sym (parts_from-place c.args.marker.now c.args.bytes.now c.places.start end c.places.invariant.within (omega arith) c.in_default.ensures)
    ∙ c.places.invariant.left

pub returns-in-Some-after_marker_at : goal.returns-in-Some-after_marker_at
returns-in-Some-after_marker_at c =
    let bytes = c.args.bytes.now in
    let first = c.in-Some.ensures.0 in
    sym (cut_at-found c.args.marker.now bytes (begins_line bytes c.in-Some.at) c.in-Some.at c.in-Some-after_marker_at.after.now first.high (sym c.in-Some-after_marker_at.ensures))
    ∙ sym (parts_from-place c.args.marker.now bytes c.places.start c.in-Some.at first.low (omega (arith, first.high)) first.before)
    ∙ c.places.invariant.left

pub places-preserved : goal.places-preserved
places-preserved c =
    let bytes = c.args.bytes.now in
    let first = c.in-Some.ensures.0 in
    record {
      within = omega (arith, first.high);
      left = sym (parts_from-passed c.args.marker.now bytes c.in-Some.at first.high (sym c.in_default-after_marker_at.ensures))
          ∙ sym (parts_from-place c.args.marker.now bytes c.places.start c.in-Some.at first.low (omega (arith, first.high)) first.before)
          ∙ c.places.invariant.left;
    }
