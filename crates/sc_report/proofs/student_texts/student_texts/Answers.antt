use Rattle.std.proofs.Common.{ap, arith, codes, decimal, subst, sym, take, ◌∙◌, ◌++◌}
use Rattle.std.specs.Prelude.{flat_map}
use Rattle.std.proofs.lemmas.Bool.{false≢true}
use Rattle.std.proofs.lemmas.List.{take_all}
use Rattle.sc_reasons.specs.Entrants.{Holds}
use Rattle.sc_reasons.specs.Reason.{reasons_of}
use Rattle.sc_reasons.specs.declared.entrants.Entrant.{Entrant}
use Rattle.sc_report.specs.Endings.{HaveEndings}
use Rattle.sc_report.specs.Pages.{text_so_far}
use Rattle.sc_report.specs.ReasonText.{reason_line}
use Rattle.sc_report.specs.Text.{assignment_line}
use Rattle.sc_report.proofs.EndingLemmas.{endings-long}
use Rattle.sc_report.proofs.LineLemmas.{lines-flat, lines-map, lines-more}
use Rattle.sc_report.proofs.PageLemmas.{draft-grew, page-grew}
use Rattle.sc_report.proofs.student_texts.student_texts.Goals as goal
use Rattle.sc_report.proofs.student_texts.student_texts.Goals.{then-with_reasons+in_ok-told_end, else-with_reasons}

pub put_place-end-requires-clause-endings : goal.put_place-end-requires-clause-endings
put_place-end-requires-clause-endings c = endings-long c.args.papers.now c.args.rows.now c.in_ok-endings.endings c.in_ok-endings.ensures c.requires.schools

pub put_place-end-requires-clause-number : goal.put_place-end-requires-clause-number
put_place-end-requires-clause-number c = c.number_then-number.ensures ∙ ap (λ n. decimal n ++ codes ",") c.get.ensures.value

pub put_reasons-end-requires-clause-endings : goal.put_reasons-end-requires-clause-endings
put_reasons-end-requires-clause-endings c = endings-long c.args.papers.now c.args.rows.now c.in_ok-endings.endings c.in_ok-endings.ensures c.requires.schools

pub loop-entrant-preserved : goal.loop-entrant-preserved
loop-entrant-preserved c = record {
  assignment = λ a are hold.
      let k = c.loop-entrant.entrant-index in
      let one = c.entrant-item.result in
      let holds : Holds a one = subst (Holds a) (sym c.entrant-item.is) (hold k one c.loop-entrant-test.true) in
      let have = subst (λ rows. HaveEndings rows c.in_ok-endings.endings) are c.in_ok-endings.ensures in
      let pages = c.loop-entrant.assignment in
      let lines = λ (e : Entrant). assignment_line a e.student in
      let before = take c.loop-entrant.placed_end c.loop-entrant.placed in
      let grew = draft-grew (text_so_far pages) before (lines one) _ _ (c.put_place-end.ensures.text a have holds) c.in_ok-placed_end.ensures.text in
      lines-more lines c.args.entrants.now k one (codes "student,school\n") (text_so_far pages ++ before) _ (c.loop-entrant.invariant.assignment a are hold) grew c.loop-entrant-test.true c.entrant-item.is;
  reasons = λ wanted a are hold.
      let k = c.loop-entrant.entrant-index in
      let one = c.entrant-item.result in
      let holds : Holds a one = subst (Holds a) (sym c.entrant-item.is) (hold k one c.loop-entrant-test.true) in
      let have = subst (λ rows. HaveEndings rows c.in_ok-endings.endings) are c.in_ok-endings.ensures in
      let pages = c.loop-entrant.reasons in
      let lines = λ (e : Entrant). flat_map reason_line (reasons_of c.args.papers.now a e.student) in
      let before = take c.loop-entrant.told_end c.loop-entrant.told in
      elim c.if-with_reasons.branch [
        | then-with_reasons+in_ok-told_end w ↦
            let grew = draft-grew (text_so_far pages) before (lines one) _ _ (w.put_reasons-end.ensures.text a have holds) w.in_ok-told_end.ensures.text in
            rw (w.reasons-is, w.told_end-is, w.told-is)
            (lines-more lines c.args.entrants.now k one (codes "student,school,reason\n") (text_so_far pages ++ before) _ (c.loop-entrant.invariant.reasons wanted a are hold) grew c.loop-entrant-test.true c.entrant-item.is)
        | else-with_reasons w ↦ absurd (false≢true (sym w.if-with_reasons.false ∙ wanted))
      ];
  placed_room = c.put_place-end.ensures.room ∙ c.loop-entrant.invariant.placed_room;
  told_room =
      elim c.if-with_reasons.branch [
        | then-with_reasons+in_ok-told_end w ↦ rw w.told-is (w.put_reasons-end.ensures.room ∙ c.loop-entrant.invariant.told_room)
        | else-with_reasons w ↦ rw w.told-is c.loop-entrant.invariant.told_room
      ];
  placed_low = omega (arith, c.in_ok-placed_end.ensures.room, c.put_place-end.ensures.room, c.loop-entrant.invariant.placed_room);
  told_low =
      elim c.if-with_reasons.branch [
        | then-with_reasons+in_ok-told_end w ↦ omega (arith, w.told_end-is, w.in_ok-told_end.ensures.room, w.put_reasons-end.ensures.room, c.loop-entrant.invariant.told_room)
        | else-with_reasons w ↦ omega (arith, w.told_end-is, c.loop-entrant.invariant.told_low)
      ];
}

pub returns-clause-assignment : goal.returns-clause-assignment
returns-clause-assignment c a are hold =
    let line = assignment_line a in
    let filled = c.loop-entrant.assignment in
    let header = codes "student,school\n" in
    page-grew filled.full.items filled.last.items c.extend_from_slice.new.self.items (take c.loop-entrant.placed_end c.loop-entrant.placed) c.in_ok-extend_from_slice.ensures.items
    ∙ c.loop-entrant.invariant.assignment a are hold
    ∙ ap (λ es. header ++ flat_map (λ (e : Entrant). line e.student) es) (take_all c.loop-entrant.entrant-index c.args.entrants.now c.loop-entrant-test.false)
    ∙ ap (λ more. header ++ more) (lines-map line (λ (e : Entrant). e.student) c.args.entrants.now)

pub returns-clause-reasons : goal.returns-clause-reasons
returns-clause-reasons c wanted a are hold =
    let rows = reasons_of c.args.papers.now a in
    let filled = c.loop-entrant.reasons in
    let header = codes "student,school,reason\n" in
    page-grew filled.full.items filled.last.items c.extend_from_slice-2.new.self.items (take c.loop-entrant.told_end c.loop-entrant.told) c.in_ok-extend_from_slice-2.ensures.items
    ∙ c.loop-entrant.invariant.reasons wanted a are hold
    ∙ ap (λ es. header ++ flat_map (λ (e : Entrant). flat_map reason_line (rows e.student)) es) (take_all c.loop-entrant.entrant-index c.args.entrants.now c.loop-entrant-test.false)
    ∙ ap (λ more. header ++ more)
    (lines-flat reason_line (λ (e : Entrant). rows e.student) c.args.entrants.now ∙ ap (flat_map reason_line) (lines-map rows (λ (e : Entrant). e.student) c.args.entrants.now))
