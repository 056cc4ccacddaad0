use Rattle.std.proofs.Common.{◌≡◌, ◌++◌, refl, Some, ap, arith, slice_get, sym, take, ◌∙◌}
use Rattle.std.specs.Option.{option_map}
use Rattle.std.specs.Prelude.{flat_map}
use Rattle.std.proofs.lemmas.List.{take_all}
use Rattle.std.proofs.lemmas.Option.{get_or_from_slice_get, slice_get-map, slice_get_within}
use Rattle.sc_papers.specs.Key.{key_of}
use Rattle.sc_papers.specs.Market.{schools_of}
use Rattle.sc_papers.specs.Matching.{Matching}
use Rattle.sc_papers.proofs.Positions.{position-there}
use Rattle.sc_reasons.specs.Cutoff.{cutoff_row, rows_in_order}
use Rattle.sc_reasons.specs.Reason.{reason_row, reasons_of}
use Rattle.sc_reasons.proofs.ReasonLemmas.{missed-few, missed-long, missed-there, missed-within}
use Rattle.sc_report.specs.Endings.{piece_text}
use Rattle.sc_report.specs.ReasonText.{reason_line}
use Rattle.sc_report.proofs.EndingLemmas.{line-joined}
use Rattle.sc_report.proofs.LineLemmas.{lines-more}
use Rattle.sc_report.proofs.student_texts.put_reasons.Goals as goal

pub ending-ending-requires : goal.ending-ending-requires
ending-ending-requires c =
    let held : Matching = λ _. c.args.entrant.now.held in
    omega (
      arith,
      c.position.ensures,
      c.requires.endings,
      missed-within c.args.papers.now held c.args.entrant.now.student c.loop-choice.choice-index c.missed-choices.result.now c.choice-item.result
          (c.missed-choices.ensures held refl) c.loop-choice-test.true c.choice-item.is,
    )

pub put_line-end-requires : goal.put_line-end-requires
put_line-end-requires c =
    let held : Matching = λ _. c.args.entrant.now.held in
    let few = missed-few c.args.papers.now held c.args.entrant.now.student c.missed-choices.result.now c.students_len.ensures.within_limits (c.missed-choices.ensures held refl) in
    omega (arith, c.requires.over, c.loop-choice.invariant.room, c.loop-choice.invariant.end, c.loop-choice-test.true, few)

pub loop-choice-preserved : goal.loop-choice-preserved
loop-choice-preserved c =
    let m = c.args.papers.now in
    let i = c.args.entrant.now.student in
    let k = c.loop-choice.choice-index in
    let one = c.choice-item.result in
    let held : Matching = λ _. c.args.entrant.now.held in
    let few = missed-few m held i c.missed-choices.result.now c.students_len.ensures.within_limits (c.missed-choices.ensures held refl) in
    record {
      text = λ a have holds.
          let rows = reasons_of m a i in
          let got = missed-there m a i k c.missed-choices.result.now one (c.missed-choices.ensures a holds) c.loop-choice-test.true c.choice-item.is in
          let s = got.school in
          let row = reason_row m a i s in
          let there : slice_get (rows_in_order m a) one.position ≡ Some (cutoff_row m a s) = slice_get-map (cutoff_row m a) (schools_of m) one.position ∙ ap (option_map (cutoff_row m a)) (position-there (schools_of m) s one.position got.place) in
          let ending = c.ending-ending.ensures (rows_in_order m a) (cutoff_row m a s) (key_of m i s) have (ap (slice_get (rows_in_order m a)) c.position.ensures ∙ there) (got.class ∙ sym c.class.ensures) in
          let line = line-joined row (piece_text c.args.number) (piece_text c.ending-ending.result) (take c.loop-choice.end c.loop-choice.over) (take c.put_line-end.result c.put_line-end.new.over) c.requires.number ending c.put_line-end.ensures.text in
          lines-more reason_line rows k row (take c.args.at c.args.over.now) (take c.loop-choice.end c.loop-choice.over) (take c.put_line-end.result c.put_line-end.new.over) (c.loop-choice.invariant.text a have holds) line
          (slice_get_within rows k row got.row) (sym (get_or_from_slice_get rows k row row got.row));
      room = c.put_line-end.ensures.room ∙ c.loop-choice.invariant.room;
      end = omega (arith, c.put_line-end.ensures.end, c.loop-choice.invariant.end);
      low = omega (arith, c.loop-choice-test.true, few);
    }

pub returns-clause-text : goal.returns-clause-text
returns-clause-text c a have holds =
    let rows = reasons_of c.args.papers.now a c.args.entrant.now.student in
    let long = missed-long c.args.papers.now a c.args.entrant.now.student c.missed-choices.result.now (c.missed-choices.ensures a holds) in
    c.loop-choice.invariant.text a have holds
    ∙ ap (λ lines. take c.args.at c.args.over.now ++ flat_map reason_line lines) (take_all c.loop-choice.choice-index rows (omega (arith, long, c.loop-choice-test.false)))
