use Rattle.std.proofs.Common.{◌≡◌, ◌++◌, Some, ap, decimal, slice_get, sym, take, ◌∙◌}
use Rattle.std.specs.Option.{option_map}
use Rattle.std.specs.Prelude.{codes}
use Rattle.std.proofs.lemmas.Option.{slice_get-map}
use Rattle.sc_papers.specs.Market.{schools_of}
use Rattle.sc_papers.proofs.Positions.{position-there}
use Rattle.sc_reasons.specs.Cutoff.{cutoff_row, rows_in_order}
use Rattle.sc_report.specs.Endings.{piece_text}
use Rattle.sc_report.proofs.student_texts.put_school.Goals as goal

pub returns-in-Some-clause-text : goal.returns-in-Some-clause-text
returns-in-Some-clause-text c a have =
    let m = c.args.papers.now in
    let s = c.args.school in
    let p = c.in-Some.position in
    let there : slice_get (rows_in_order m a) p ≡ Some (cutoff_row m a s) = slice_get-map (cutoff_row m a) (schools_of m) p ∙ ap (option_map (cutoff_row m a)) (position-there (schools_of m) s p (sym c.school_position.ensures ∙ c.in-Some.is)) in
    c.put_line.ensures.text ∙ ap (λ ending. take c.args.at c.args.over.now ++ (piece_text c.args.number ++ ending)) (c.place.ensures (rows_in_order m a) (cutoff_row m a s) have there)

pub returns-in-None-clause-text : goal.returns-in-None-clause-text
returns-in-None-clause-text c a have =
    c.put_line-in-None.ensures.text ∙ ap (λ ending. take c.args.at c.args.over.now ++ (piece_text c.args.number ++ ending)) (c.number_then.ensures ∙ ap (λ n. decimal n ++ codes "\n") c.get.ensures.value)
