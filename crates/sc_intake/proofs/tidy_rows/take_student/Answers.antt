use Rattle.std.proofs.Common.{◌≡◌, ◌∷◌, [], Ok, refl, rules}
use Rattle.sc_intake.specs.Field.{as_student, as_zone}
use Rattle.sc_intake.specs.Tidy.{AreSchools, EndsRow, TakesField, TakesNumber}
use Rattle.sc_intake.proofs.PlainCutting.{ended-unmarked}
use Rattle.sc_intake.proofs.TidyRows.{roster-row}
use Rattle.sc_intake.proofs.tidy_rows.take_student.Goals as goal

pub returns-clause-row : goal.returns-clause-row
returns-clause-row c =
    let text = c.args.text.now in
    let n = c.in_ok-number.number in
    let z = c.in_ok-zone.zone in
    let after_student = c.in_ok-number.after.now in
    let text_zone = c.in_ok-after_comma.field-0.now in
    let after_zone = c.in_ok-zone.after.now in
    let text_siblings = c.in_ok-after_comma-2.field-0.now in
    let after_siblings = c.in_ok-siblings.after.now in
    let rest = c.in-Some.rest.now in
    let takes : TakesNumber text after_student n = search rules in
    let comma : after_student ≡ 44 ∷ text_zone = search rules in
    let takes_zone : TakesNumber text_zone after_zone z = search rules in
    let zone_comma : after_zone ≡ 44 ∷ text_siblings = search rules in
    let field : TakesField text_siblings after_siblings (AreSchools c.in_ok-siblings.siblings) = search rules in
    let ends : EndsRow c.args.width after_siblings rest c.in-Some.continuing = search rules in
    let student : as_student n ≡ Ok c.in-Ok.student = search rules in
    let zone : as_zone z ≡ Ok c.in-Ok-zone.zone = search rules in
    λ by_lines. roster-row by_lines c.args.width c.args.row text after_student text_zone after_zone text_siblings after_siblings rest n z c.in-Ok.student c.in-Ok-zone.zone c.in_ok-siblings.siblings c.in-Some.continuing
    takes comma takes_zone zone_comma field ends student zone

pub returns-clause-unmarked : goal.returns-clause-unmarked
returns-clause-unmarked c =
    let ends : EndsRow c.args.width c.in_ok-siblings.after.now c.in-Some.rest.now c.in-Some.continuing = search rules in
    ended-unmarked c.in-Some.rest.now (ends.line [] refl).ends
