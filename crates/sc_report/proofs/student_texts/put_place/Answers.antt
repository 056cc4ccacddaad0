use Rattle.std.proofs.Common.{ap, codes, sym, take, ◌∙◌, ◌++◌}
use Rattle.sc_report.specs.Endings.{piece_text, place_ending}
use Rattle.sc_report.specs.Text.{place_text}
use Rattle.sc_report.proofs.EndingLemmas.{assignment-joined}
use Rattle.sc_report.proofs.student_texts.put_place.Goals as goal

pub returns-in-Some-clause-text : goal.returns-in-Some-clause-text
returns-in-Some-clause-text c a have holds =
    let one = c.args.entrant.now in
    assignment-joined a one (piece_text c.args.number) (place_ending c.in-Some.school) (take c.args.at c.args.over.now) _ holds c.requires.number
    (ap (λ held. place_text held ++ codes "\n") (sym c.in-Some.is)) (c.put_school.ensures.text a have)

pub returns-in-None-clause-text : goal.returns-in-None-clause-text
returns-in-None-clause-text c a have holds =
    let one = c.args.entrant.now in
    assignment-joined a one (piece_text c.args.number) (piece_text c.of.result) (take c.args.at c.args.over.now) _ holds c.requires.number
    (c.of.ensures ∙ ap (λ held. place_text held ++ codes "\n") (sym c.in-None.is)) c.put_line.ensures.text
