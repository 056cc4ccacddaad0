use Rattle.std.proofs.Common.{◌≡◌, ◌∙◌, ◌++◌, ℕ, List, sym, ap, None, arith, append_assoc, map}
use Rattle.std.specs.Prelude.{flat_map, slice_get, codes}
use Rattle.sc_export.specs.Files.{row_text, school_fields}
use Rattle.sc_export.specs.Ranges.{IsSchoolInRange}
use Rattle.sc_export.proofs.Growing.{all-more, all-of, not-past, row-more, rows-all}
use Rattle.sc_export.proofs.schools.push_schools.Goals as goal

pub unreachable-requires : goal.unreachable-requires
unreachable-requires c =
    let past : slice_get c.args.papers.now.schools c.loop-position.position ≡ None = sym c.school_entry.ensures ∙ c.in-None.is in
    let within = c.loop-position-test.true in
    let size = c.schools_len-position-end.ensures in
    not-past c.args.papers.now.schools c.loop-position.position past (omega arith)

pub loop-position-preserved : goal.loop-position-preserved
loop-position-preserved c = (
  row-more row_text school_fields c.args.papers.now.schools c.loop-position.position c.in-Some.entry _ c.loop-position.text.items c.push_school.new.text.items
      c.loop-position.invariant.0 (sym c.school_entry.ensures ∙ c.in-Some.is) c.in_ok-push_school-in-Some.ensures.row,
  all-more IsSchoolInRange c.args.papers.now.schools c.loop-position.position c.in-Some.entry c.loop-position.invariant.1 (sym c.school_entry.ensures ∙ c.in-Some.is) c.in_ok-push_school-in-Some.ensures.in_range,
)

pub returns-clause-file : goal.returns-clause-file
returns-clause-file c =
    let past = c.loop-position-test.false in
    let size = c.schools_len-position-end.ensures in
    rows-all row_text school_fields c.args.papers.now.schools c.loop-position.position _ c.loop-position.text.items c.loop-position.invariant.0 (omega arith)
    ∙ ap (λ (text : List ℕ). text ++ flat_map row_text (map school_fields c.args.papers.now.schools)) c.in_ok-extend_from_slice.ensures.items
    ∙ append_assoc c.args.text.now.items (codes "school,zone,seats\n") (flat_map row_text (map school_fields c.args.papers.now.schools))

pub returns-clause-in_range : goal.returns-clause-in_range
returns-clause-in_range c =
    let past = c.loop-position-test.false in
    let size = c.schools_len-position-end.ensures in
    all-of IsSchoolInRange c.args.papers.now.schools c.loop-position.position c.loop-position.invariant.1 (omega arith)
